use Rattle.std.proofs.Common.{◌≡◌, length}
use Rattle.cny_dep.specs.FlavorReading as reading
use Rattle.cny_dep.proofs.flavor_reading.skip_spaces.Given as goal

abbrev pub invariant-loop-rest : goal.invariant-loop-rest
invariant-loop-rest l = reading.skip_spaces l.rest ≡ reading.skip_spaces l.bytes

abbrev pub decreases-loop-rest : goal.decreases-loop-rest
decreases-loop-rest l = length l.rest
