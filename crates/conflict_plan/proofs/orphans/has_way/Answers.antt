use Rattle.std.proofs.Common.{◌≡◌, IsNone, IfSome, Ok, ap, sym, ◌∙◌, subst}
use Rattle.trove_stream.specs.cny-base.Path.{parent}
use Rattle.tree_scan.proofs.tree-disk.StepLaws.{tests_answer, tests_start, tests_value}
use Rattle.conflict_plan.proofs.Above.{way_above, way_planned}
use Rattle.conflict_plan.proofs.orphans.has_way.Goals as goal

pub returns-clause-tests : goal.returns-clause-tests
returns-clause-tests g c =
    tests_answer c.in_ok-dir.ensures.tests (λ tells.
    ap Ok (way_above c.args.plan.now (g.D.TreeDisk.disk.reads c.args.disk.now) c.args.planned.now.path c.in-Some.above
    (λ is_root. absurd (cc (subst IsNone c.in-Some.is (c.in_ok-found.ensures.none.1 is_root))))
    (subst (λ o. IfSome o (λ p. p ≡ parent c.args.planned.now.path)) c.in-Some.is c.in_ok-found.ensures.some)
    (sym c.fate.ensures ∙ c.in_default-fate.is)
    ∙ sym (tests_value c.in_ok-dir.ensures.tests tells)))

pub returns-in-Some-fate-clause-tests : goal.returns-in-Some-fate-clause-tests
returns-in-Some-fate-clause-tests g c = tests_start g.met.D.TreeDisk.laws c.args.disk.now c.is_dir.result (λ tells.
    ap Ok (way_planned c.args.plan.now (g.D.TreeDisk.disk.reads c.args.disk.now) c.args.planned.now.path c.in-Some.above c.in-Some-fate.fate
    (λ is_root. absurd (cc (subst IsNone c.in-Some.is (c.in_ok-found.ensures.none.1 is_root))))
    (subst (λ o. IfSome o (λ p. p ≡ parent c.args.planned.now.path)) c.in-Some.is c.in_ok-found.ensures.some)
    (sym c.fate.ensures ∙ c.in-Some-fate.is)
    ∙ sym c.is_dir.ensures))
