use Rattle.std.proofs.Common.{◌≡◌, map}
use Rattle.repo_shadow.specs.Steps.{wholly_moved}
use Rattle.repo_shadow.proofs.moving.moved_troves.Given as goal

abbrev pub invariant-loop-trove : goal.invariant-loop-trove
invariant-loop-trove l = l.made.items ≡ map (wholly_moved l.way l.label) l.yielded
