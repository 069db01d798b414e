use Rattle.std.proofs.Common.{◌≡◌, ◌-◌}
use Rattle.cny_dep.specs.FlavorReading.{sets_at}
use Rattle.cny_dep.proofs.Loops.{with_sets}
use Rattle.cny_dep.proofs.flavor_reading.written_sets.Given as goal

abbrev pub invariant-loop : goal.invariant-loop
invariant-loop l = with_sets l.sets.items (sets_at (64 - l.counter) l.rest) ≡ sets_at 64 l.bytes
