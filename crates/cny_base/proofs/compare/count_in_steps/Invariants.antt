use Rattle.std.proofs.Common.{◌≡◌, ◌*◌, take}
use Rattle.std.specs.List.{count_by}
use Rattle.cny_base.specs.Compare.{differing}
use Rattle.cny_base.proofs.compare.count_in_steps.Given as goal

abbrev pub invariant-loop-step : goal.invariant-loop-step
invariant-loop-step l = l.count ≡ count_by (λ differs. differs) (take (64 * l.step) (differing l.a l.b))
