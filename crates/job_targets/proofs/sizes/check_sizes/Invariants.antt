use Rattle.std.proofs.Common.{◌≡◌, None, take}
use Rattle.job_targets.specs.Targets.{first_large}
use Rattle.job_targets.proofs.sizes.check_sizes.Given as goal

abbrev pub invariant-loop-one : goal.invariant-loop-one
invariant-loop-one l = first_large (take l.one-index l.planned) ≡ None
