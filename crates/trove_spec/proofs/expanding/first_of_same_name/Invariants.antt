use Rattle.std.proofs.Common.{◌≡◌, map, length}
use Rattle.trove_spec.specs.Expansion.{first_of_same_name}
use Rattle.trove_spec.proofs.expanding.first_of_same_name.Given as goal

abbrev pub invariant-loop-rest : goal.invariant-loop-rest
invariant-loop-rest l = first_of_same_name (map (λ trove. trove.now) l.rest) ≡ first_of_same_name (map (λ trove. trove.now) l.troves)

abbrev pub decreases-loop-rest : goal.decreases-loop-rest
decreases-loop-rest l = length l.rest
