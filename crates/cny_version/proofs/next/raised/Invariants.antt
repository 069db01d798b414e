use Rattle.std.proofs.Common.{◌≡◌, take}
use Rattle.cny_version.specs.Made.{filled_up}
use Rattle.cny_version.proofs.next.raised.Given as goal

abbrev pub invariant-loop-place : goal.invariant-loop-place
invariant-loop-place l = l.items.items ≡ take l.place (filled_up l.depth l.numbers)
