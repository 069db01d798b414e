use Rattle.std.proofs.Common.{refl, sym, ◌∙◌}
use Rattle.job_targets.proofs.Listed.{large_here, no_large_more}
use Rattle.job_targets.proofs.sizes.check_sizes.Goals as goal

pub loop-one-preserved : goal.loop-one-preserved
loop-one-preserved c =
    no_large_more c.args.planned.now c.loop-one.one-index c.one-item.result c.loop-one-test.true c.one-item.is c.loop-one.invariant (sym c.large_size.ensures ∙ c.in_default.is)

pub returns-in-Some-clause-large : goal.returns-in-Some-clause-large
returns-in-Some-clause-large c =
    (refl, large_here c.args.planned.now c.loop-one.one-index c.one-item.result c.in-Some.size c.loop-one-test.true c.one-item.is c.loop-one.invariant (sym c.in-Some.ensures))
