use Rattle.std.proofs.Common.{◌≡◌, IsTrue, Ok, Err, ◌<◌, List, [], length, take, sym, subst, refl}
use Rattle.std.specs.FinMap.{get}
use Rattle.update_job.specs.trove-parts.declared.files.FileAt.{FileAt}
use Rattle.tree_scan.specs.tree-disk.Tree.{Tree}
use Rattle.root_edits.specs.Standing.{too_large_node}
use Rattle.root_edits.specs.Steps.{within_limit, HaveSeen}
use Rattle.tree_scan.proofs.ReadingLaws.{reads_answer, reads_memory, reads_start, reads_then, reads_same, tested_answer, tested_stop}
use Rattle.root_edits.proofs.Members.{next_one}
use Rattle.root_edits.proofs.Seeing.{nothing_seen, one_seen, refused_at, rest_at, within_ok}
use Rattle.change_rel.proofs.trove-stream.Members.{take_all as take_whole}
use Rattle.root_edits.proofs.standing.standing_files.Goals as goal

pub loop-file-init : goal.loop-file-init
loop-file-init g c =
    let disk = g.D.TreeDisk.disk in
    let tree = disk.reads c.args.disk.now in
    let before = c.args.carried.now.items in record {
      finds = reads_start g.met.D.TreeDisk.laws c.args.disk.now tt (λ tells. tt);
      seen = subst (λ (l : List FileAt). HaveSeen disk.tells tree [] l before before) (sym c.new-files.ensures.items) (nothing_seen disk.tells tree before);
      rest = λ tells. refl;
    }

pub loop-file-preserved : goal.loop-file-preserved
loop-file-preserved g c =
    let disk = g.D.TreeDisk.disk in
    let tree = disk.reads c.args.disk.now in
    let recorded = c.args.recorded.now in
    let i = c.loop-file.file-index in
    let file = c.file-item.result in
    let n = c.in_ok-node.node in
    let before = c.args.carried.now.items in
    let newer = c.push_seen.new.files.items in
    let later = c.push_seen.new.carried.items in
    let within : i < length recorded = c.loop-file-test.true in
    let stands : IsTrue disk.tells → n ≡ get tree file.path = λ tells.
    within_ok (get tree file.path) n (too_large_node (get tree file.path))
    (subst (λ (t : Tree). within_limit (get t file.path) (too_large_node (get t file.path)) ≡ Ok n) (reads_same c.loop-file.invariant.finds tells) (c.in_ok-node.ensures.tests.found tells)) in record {
      finds = reads_then g.met.D.TreeDisk.laws c.loop-file.invariant.finds (tested_answer {S = λ t done. Unit {0}} {V = λ t refused. ⊥} c.in_ok-node.ensures.tests (λ tells e. tt)) (λ tells p z s. tt) (λ tells p refused v. v);
      seen = subst (λ (l : List FileAt). HaveSeen disk.tells tree l newer before later) (sym (next_one recorded i file within c.file-item.is))
          (one_seen disk.tells tree (take i recorded) file c.loop-file.files.items newer before c.loop-file.carried.items later n c.loop-file.invariant.seen c.in_ok-node.ensures.fits c.in_ok-push_seen.ensures.files
          c.in_ok-push_seen.ensures.carried stands);
      rest = λ tells. rest_at tree recorded i file n within c.file-item.is (c.loop-file.invariant.rest tells) (stands tells) c.in_ok-node.ensures.fits.small;
    }

pub returns-in_err-node-clause-finds : goal.returns-in_err-node-clause-finds
returns-in_err-node-clause-finds g c =
    let disk = g.D.TreeDisk.disk in
    let recorded = c.args.recorded.now in
    let file = c.file-item.result in
    reads_then g.met.D.TreeDisk.laws c.loop-file.invariant.finds
    (tested_stop {S = λ t files. Unit {0}} {V = λ t refused. within_limit (get t file.path) (too_large_node (get t file.path)) ≡ Err refused} c.in_err-node.ensures.tests c.from_residual.ensures.1 (λ tells refused e. e))
    (λ tells p z s. tt)
    (λ tells p refused e. refused_at (disk.reads c.args.disk.now) recorded c.loop-file.file-index file refused c.loop-file-test.true c.file-item.is (c.loop-file.invariant.rest tells) e)

pub returns-in_err-push_seen-clause-finds : goal.returns-in_err-push_seen-clause-finds
returns-in_err-push_seen-clause-finds g c =
    reads_then g.met.D.TreeDisk.laws c.loop-file.invariant.finds
    (reads_memory {X = Unit {0}} {P = λ t done. Unit {0}} {S = λ t files. Unit {0}} {Q = λ t refused. ⊥} {V = λ t refused. ⊥}
    (tested_answer {Z = Unit {0}} {z = tt} c.in_ok-node.ensures.tests (λ tells e. tt)) c.from_residual-in_err-push_seen.ensures.1)
    (λ tells p z s. tt) (λ tells p refused v. absurd v)

pub returns-clause-finds : goal.returns-clause-finds
returns-clause-finds g c = reads_answer c.loop-file.invariant.finds (λ tells p. tt)

pub returns-clause-seen : goal.returns-clause-seen
returns-clause-seen g c =
    let disk = g.D.TreeDisk.disk in
    let tree = disk.reads c.args.disk.now in
    let recorded = c.args.recorded.now in
    let before = c.args.carried.now.items in
    let after = c.loop-file.carried.items in
    subst (λ (l : List FileAt). HaveSeen disk.tells tree recorded l before after) (sym c.new.ensures)
    (subst (λ (l : List FileAt). HaveSeen disk.tells tree l c.loop-file.files.items before after) (take_whole c.loop-file.file-index recorded c.loop-file-test.false) c.loop-file.invariant.seen)
