use Rattle.std.proofs.Common.{◌≡◌, ◌-◌}
use Rattle.cny_dep.specs.FlavorReading.{with_front, flags_at}
use Rattle.cny_dep.proofs.flavor_reading.written_flags.Given as goal

abbrev pub invariant-loop : goal.invariant-loop
invariant-loop l = with_front l.flags.items (flags_at (64 - l.counter) l.rest) ≡ flags_at 64 l.bytes
