use Rattle.std.proofs.Common.{◌≡◌, length}
use Rattle.trove_spec.specs.Config.{without_back}
use Rattle.trove_spec.proofs.line.trim_back.Given as goal

abbrev pub invariant-loop-last : goal.invariant-loop-last
invariant-loop-last l = without_back l.rest ≡ without_back l.bytes

abbrev pub decreases-loop-last : goal.decreases-loop-last
decreases-loop-last l = length l.rest
