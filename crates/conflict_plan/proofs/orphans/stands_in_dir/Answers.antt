use Rattle.std.proofs.Common.{◌≡◌, true, false, Ok, ap, sym, ◌∙◌}
use Rattle.tree_scan.proofs.tree-disk.StepLaws.{tests_start}
use Rattle.tree_scan.specs.Marks.{is_nothing}
use Rattle.conflict_plan.proofs.Above.{stands_above}
use Rattle.conflict_plan.proofs.orphans.stands_in_dir.Goals as goal

pub returns-then-not-is_nothing-clause-tests : goal.returns-then-not-is_nothing-clause-tests
returns-then-not-is_nothing-clause-tests g c =
    let stands : is_nothing c.args.planned.now.was ≡ false = sym c.is_nothing.ensures ∙ c.if-not-is_nothing.true in
    tests_start g.met.D.TreeDisk.laws c.args.disk.now true (λ tells. ap Ok
    (stands_above (g.D.TreeDisk.disk.reads c.args.disk.now) c.args.planned.now c.args.above.now (g.met.D.TreeDisk.laws.reads_well_formed c.args.disk.now) (c.requires.seen tells) c.requires.above stands))
