use Rattle.std.proofs.Common.{◌≡◌, take}
use Rattle.repository.specs.Steps as spec
use Rattle.repository.proofs.joining.ids_of.Given as goal

abbrev pub invariant-loop-trove : goal.invariant-loop-trove
invariant-loop-trove l = l.ids.items ≡ spec.ids_of (take l.trove-index l.troves)
