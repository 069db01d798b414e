use Rattle.std.proofs.Common.{◌+◌, ◌*◌, ◌<◌, ◌-◌, ℕ, arith, sym, subst, ◌∙◌}
use lib.Count.{count_trailing_zeros}
use Rattle.cny_base.specs.Compare.{differing, IsFirstDifference}
use Rattle.cny_base.proofs.Comparing.{same_in_run, first_in_run}
use Rattle.cny_base.proofs.compare.first_in_steps.Goals as goal

pub returns-then-marked-ne0 : goal.returns-then-marked-ne0
returns-then-marked-ne0 c =
    let ds = differing c.args.a.now c.args.b.now in
    subst (λ (m : ℕ). IsFirstDifference c.args.a.now c.args.b.now (64 * c.loop-step.step + count_trailing_zeros 64 m)) (sym c.differing_at-marked.ensures)
    (first_in_run (64 * c.loop-step.step) c.args.a.now c.args.b.now c.requires.same (omega arith) c.loop-step.invariant (subst (λ (m : ℕ). 0 < m) c.differing_at-marked.ensures (omega arith)))

pub loop-step-preserved : goal.loop-step-preserved
loop-step-preserved c k below =
    same_in_run (64 * c.loop-step.step) 64 c.args.a.now c.args.b.now c.requires.same (omega arith) c.loop-step.invariant (sym c.differing_at-marked.ensures ∙ c.if-marked-ne0.false) k (omega arith)
