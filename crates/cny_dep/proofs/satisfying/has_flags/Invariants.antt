use Rattle.std.proofs.Common.{take, All, Contains}
use Rattle.cny_dep.proofs.satisfying.has_flags.Given as goal

abbrev pub invariant-loop-flag : goal.invariant-loop-flag
invariant-loop-flag l = All (Contains l.flags) (take l.flag-index l.wanted)
