use Rattle.std.proofs.Common.{◌≤◌, List, length, sym, ap, subst, ◌∙◌}
use Rattle.update_job.specs.trove-parts.declared.files.FileAt.{FileAt}
use Rattle.update_job.specs.trove-parts.Files.{AreFiles}
use Rattle.root_edits.specs.Standing.{sights}
use Rattle.root_edits.specs.Steps.{HaveSeen}
use Rattle.tree_scan.proofs.ReadingLaws.{reads_answer, reads_memory}
use Rattle.root_edits.proofs.Seeing.{files_few, files_good}
use Rattle.root_edits.proofs.changing.add_trove.Goals as goal

pub returns-clause-finds : goal.returns-clause-finds
returns-clause-finds g c = reads_answer c.in_ok-files.ensures.finds (λ tells p. tt)

pub returns-clause-added : goal.returns-clause-added
returns-clause-added g c =
    let disk = g.T.TreeDisk.disk in
    let tree = disk.reads c.args.root.now in
    let t = c.args.trove.now in
    let fresh = c.in_ok-fresh.fresh in
    let s = c.in_ok-files.ensures.seen in
    let made = c.in_ok-fresh.ensures in
    let before = c.args.carried.now.items in
    let after = c.standing_files.new.carried.items in
    let seen : HaveSeen disk.tells tree t.files fresh.files before after = record {
      seen = s.seen;
      files_are = s.files_are ∙ c.files.ensures.value;
      fit = s.fit;
      made_is = made.files_are ∙ s.made_is;
      carried_is = s.carried_is;
      told_is = λ tells. s.told_is tells ∙ ap (sights tree) c.files.ensures.value;
    } in record {
      trove = c.files.ensures.trove;
      fresh = fresh;
      seen = seen;
      is = record { id = made.id; files = made.files_are ∙ s.made_is; refs = made.refs; required = made.required; provided = made.provided };
      rel = c.in_ok-rel.rel;
      leads = c.in_ok-rel.ensures.leads;
      new_is = c.in_ok-push.ensures.items;
    }

pub moved_trove-requires-clause-files : goal.moved_trove-requires-clause-files
moved_trove-requires-clause-files g c =
    files_good g.T.TreeDisk.disk.tells (g.T.TreeDisk.disk.reads c.args.root.now) c.files.result.now c.in_ok-files.files c.args.carried.now.items c.standing_files.new.carried.items
    (subst AreFiles (sym c.files.ensures.value) c.files.ensures.trove.lists.files) c.in_ok-files.ensures.seen

pub moved_trove-requires-clause-few : goal.moved_trove-requires-clause-few
moved_trove-requires-clause-few g c =
    subst (λ (l : List FileAt). length c.in_ok-files.files ≤ length l) c.files.ensures.value
    (files_few g.T.TreeDisk.disk.tells (g.T.TreeDisk.disk.reads c.args.root.now) c.files.result.now c.in_ok-files.files c.args.carried.now.items c.standing_files.new.carried.items c.in_ok-files.ensures.seen)

pub returns-in_err-push-clause-finds : goal.returns-in_err-push-clause-finds
returns-in_err-push-clause-finds g c = reads_memory c.in_ok-files.ensures.finds c.from_residual-in_err-push.ensures.1
