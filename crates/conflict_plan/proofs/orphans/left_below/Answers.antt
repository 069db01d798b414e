use Rattle.std.proofs.Common.{cond, None, Ok, ap, sym, ◌∙◌}
use Rattle.tree_scan.proofs.tree-disk.StepLaws.{tests_as}
use Rattle.tree_scan.specs.tree-disk.Tree.{children}
use Rattle.tree_scan.specs.Marks.{is_dir}
use Rattle.conflict_plan.specs.Orphans.{first_remaining, wants_dir}
use Rattle.conflict_plan.proofs.Sighted.{dir_at}
use Rattle.tree_scan.proofs.tree-disk.Nodes.{left_true as and_first}
use Rattle.conflict_plan.proofs.orphans.left_below.Goals as goal

pub first_left-requires : goal.first_left-requires
first_left-requires g c tells =
    dir_at (g.D.TreeDisk.disk.reads c.args.disk.now) c.args.planned.now.path c.args.planned.now.was (c.requires tells)
    (and_first (is_dir c.args.planned.now.was) (Rattle.std.proofs.Common.not (wants_dir c.args.planned.now.want)) (sym c.leaves_dir.ensures ∙ c.if-leaves_dir.true))

pub returns-then-leaves_dir-clause-tests : goal.returns-then-leaves_dir-clause-tests
returns-then-leaves_dir-clause-tests g c =
    tests_as c.first_left.ensures.tests (λ tells.
    let tree = g.D.TreeDisk.disk.reads c.args.disk.now in
    ap (λ b. Ok (cond b (first_remaining c.args.plan.now c.args.planned.now.path (children tree c.args.planned.now.path)) None)) (sym (sym c.leaves_dir.ensures ∙ c.if-leaves_dir.true)))
