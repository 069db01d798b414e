use Rattle.std.proofs.Common.{◌≡◌, ◌<◌, List, [], length, take, Some, sym, ap, subst, ◌∙◌, refl}
use Rattle.update_job.specs.trove-stream.declared.parts.TroveParts.{TroveParts}
use Rattle.update_job.specs.change-set.declared.change.Part.{Part}
use Rattle.update_job.specs.change-set.declared.change.Carried.{Carried}
use Rattle.root_edits.specs.Local.{all_sights}
use Rattle.root_edits.specs.Standing.{too_large}
use Rattle.root_edits.specs.Steps.{HaveAddedParts}
use Rattle.tree_scan.proofs.ReadingLaws.{reads_answer, reads_start, reads_stop, reads_then, reads_same}
use Rattle.root_edits.proofs.Members.{next_one}
use Rattle.root_edits.proofs.Setting.{added_on, added_small, no_parts_added, one_part_added, trove_refused, trove_rest}
use Rattle.change_rel.proofs.trove-stream.Members.{take_all as take_whole}
use Rattle.root_edits.proofs.changing.add_troves.Goals as goal

pub loop-place-init : goal.loop-place-init
loop-place-init g c =
    let disk = g.T.TreeDisk.disk in
    let tree = disk.reads c.args.root.now in
    let troves = c.args.troves.now in record {
      finds = reads_start g.met.T.TreeDisk.laws c.args.root.now tt (λ tells. tt);
      added = subst (λ (l : List Part). HaveAddedParts disk.tells tree troves [] l c.args.carried.now.items) (sym c.requires.no_parts)
          (subst (λ (l : List Carried). HaveAddedParts disk.tells tree troves [] [] l) (sym c.requires.no_contents) (no_parts_added disk.tells tree troves));
      rest = λ tells. refl;
    }

pub loop-place-preserved : goal.loop-place-preserved
loop-place-preserved g c =
    let disk = g.T.TreeDisk.disk in
    let tree = disk.reads c.args.root.now in
    let troves = c.args.troves.now in
    let items = c.troves-trove-items.result.now in
    let i = c.loop-place.place in
    let x = c.trove-item.result in
    let within : i < length items = c.loop-place-test.true in
    let parts = c.loop-place.parts.items in
    let new = c.add_trove.new.parts.items in
    let carried = c.loop-place.carried.items in
    let after = c.add_trove.new.carried.items in
    let added = added_on disk.tells (disk.reads c.loop-place.root) tree troves x parts new carried after (reads_same c.loop-place.invariant.finds) c.in_ok-add_trove.ensures.added in record {
      finds = reads_then g.met.T.TreeDisk.laws c.loop-place.invariant.finds (reads_answer {Z = Unit {0}} {S = λ t done. Unit {0}} {V = λ t refused. ⊥} {z = tt} c.in_ok-add_trove.ensures.finds (λ tells p. tt)) (λ tells p z s. tt) (λ tells p refused v. v);
      added = subst (λ (l : List TroveParts). HaveAddedParts disk.tells tree troves l new after) (sym (next_one items i x within c.trove-item.is))
          (one_part_added disk.tells tree troves (take i items) x parts new carried after c.loop-place.invariant.added added);
      rest = λ tells. trove_rest tree items i x within c.trove-item.is (c.loop-place.invariant.rest tells) (added_small disk.tells tree troves x parts new carried after added tells);
    }

pub returns-in_err-add_trove-clause-finds : goal.returns-in_err-add_trove-clause-finds
returns-in_err-add_trove-clause-finds g c =
    let disk = g.T.TreeDisk.disk in
    let tree = disk.reads c.args.root.now in
    let items = c.troves-trove-items.result.now in
    reads_stop {P = λ t done. Unit {0}} {Q = λ t refused. too_large (all_sights t c.args.troves.now) ≡ Some refused}
    (reads_then g.met.T.TreeDisk.laws c.loop-place.invariant.finds c.in_err-add_trove.ensures.finds (λ tells p z s. s)
    (λ tells p refused e.
    sym (ap (λ (l : List TroveParts). too_large (all_sights tree l)) c.troves-trove-items.ensures.value)
    ∙ trove_refused tree items c.loop-place.place c.trove-item.result refused c.loop-place-test.true c.trove-item.is (c.loop-place.invariant.rest tells) e))
    c.from_residual.ensures.1 (λ tells refused v. v)

pub returns-clause-finds : goal.returns-clause-finds
returns-clause-finds g c = reads_answer c.loop-place.invariant.finds (λ tells p. tt)

pub returns-clause-added : goal.returns-clause-added
returns-clause-added g c =
    let disk = g.T.TreeDisk.disk in
    let tree = disk.reads c.args.root.now in
    let troves = c.args.troves.now in
    subst (λ (l : List TroveParts). HaveAddedParts disk.tells tree troves l c.loop-place.parts.items c.loop-place.carried.items)
    (take_whole c.loop-place.place c.troves-trove-items.result.now c.loop-place-test.false ∙ c.troves-trove-items.ensures.value) c.loop-place.invariant.added
