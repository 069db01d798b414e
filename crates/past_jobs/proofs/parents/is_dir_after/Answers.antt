use Rattle.std.proofs.Common.{Ok, sym, ap, ◌∙◌}
use Rattle.local_db.proofs.tree-disk.StepLaws.{tests_as, tests_start}
use Rattle.tree_scan.specs.Marks.{is_dir}
use Rattle.tree_scan.specs.declared.mark.Mark.{Mark}
use Rattle.past_jobs.specs.Marks.{undone}
use Rattle.local_db.specs.Record.{Entry}
use Rattle.past_jobs.specs.Seen.{mark_seen}
use Rattle.past_jobs.proofs.JobLaws.{undone_other}
use Rattle.past_jobs.proofs.Undone.{undone_at}
use Rattle.past_jobs.proofs.parents.is_dir_after.Goals as goal

pub returns-in-Some-clause-tests : goal.returns-in-Some-clause-tests
returns-in-Some-clause-tests g c =
    let es = c.args.changes.now in
    let x = c.index-changes-place.result in
    tests_start g.met.D.TreeDisk.laws c.args.disk.now c.is_dir.result (λ tells.
    let seen = mark_seen c.args.found.now (g.D.TreeDisk.disk.reads c.args.disk.now) in
    ap Ok (ap is_dir (ap (undone es seen) (sym c.text.ensures.value)
    ∙ undone_at es c.text.result.now seen c.in-Some.place x c.requires c.in-Some.ensures.some.0 c.in-Some.ensures.some.1
    ∙ sym (ap (λ (e : Entry). e.was) c.index-changes-place.is) ∙ sym c.old_mark.ensures) ∙ sym c.is_dir.ensures))

pub returns-clause-tests : goal.returns-clause-tests
returns-clause-tests g c =
    tests_as c.in_ok-dir.ensures.tests (λ tells.
    let seen = mark_seen c.args.found.now (g.D.TreeDisk.disk.reads c.args.disk.now) in
    ap (λ (m : Mark). Ok (is_dir m)) (sym (ap (undone c.args.changes.now seen) (sym c.text.ensures.value) ∙ undone_other c.args.changes.now seen c.text.result.now c.in_default.ensures.none
    ∙ ap seen c.text.ensures.value)))
