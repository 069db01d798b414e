use Rattle.std.proofs.Common.{◌≡◌}
use Rattle.manifest_troves.specs.Troves.{deps_of}
use Rattle.manifest_troves.proofs.troves.deps_of.Given as goal

abbrev pub invariant-loop-line : goal.invariant-loop-line
invariant-loop-line l = l.deps.items ≡ deps_of l.yielded
