use Rattle.std.proofs.Common.{◌*◌}
use Rattle.cny_base.specs.Compare.{AreSameBefore}
use Rattle.cny_base.proofs.compare.first_in_steps.Given as goal

abbrev pub invariant-loop-step : goal.invariant-loop-step
invariant-loop-step l = AreSameBefore l.a l.b (64 * l.step)
