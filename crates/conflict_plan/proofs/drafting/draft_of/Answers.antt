use Rattle.std.proofs.Common.{cond, None, Ok, ap, sym, ◌∙◌, false}
use Rattle.tree_scan.proofs.tree-disk.StepLaws.{tests_value}
use Rattle.tree_scan.specs.Marks.{fingerprint_at}
use Rattle.conflict_plan.specs.Drafts.{draft_by}
use Rattle.conflict_plan.specs.Table.{path_outcome}
use Rattle.conflict_plan.proofs.Above.{decided_may, tests_decided}
use Rattle.conflict_plan.proofs.Picking.{decided_picked}
use Rattle.conflict_plan.proofs.drafting.draft_of.Goals as goal

pub returns-clause-tests : goal.returns-clause-tests
returns-clause-tests g c =
    tests_decided c.in_ok-was.ensures.tests (λ tells.
    let tree = g.D.TreeDisk.disk.reads c.args.disk.now in
    ap (λ b. cond b (Ok None) (draft_by c.args.options.now c.args.entry (fingerprint_at tree c.args.entry.path))) (sym c.is_settled.ensures ∙ c.if-is_settled.false)
    ∙ ap (draft_by c.args.options.now c.args.entry) (sym (tests_value c.in_ok-was.ensures.tests tells)))
    c.draft_by.ensures

pub returns-clause-stops : goal.returns-clause-stops
returns-clause-stops g c =
    decided_may (path_outcome c.args.entry.path c.args.entry.old c.args.entry.fresh c.in_ok-was.was' false c.args.options.now) c.args.entry c.in_ok-was.was' c.draft_by.result c.draft_by.ensures

pub returns-clause-picked : goal.returns-clause-picked
returns-clause-picked g c =
    decided_picked c.args.options.now c.args.entry c.in_ok-was.was' c.draft_by.result (sym c.is_settled.ensures ∙ c.if-is_settled.false) c.draft_by.ensures
