use Rattle.std.proofs.Common.{take}
use Rattle.update_job.specs.Allowed.{AreAllowed}
use Rattle.update_job.proofs.allowed.check_allowed.Given as goal

abbrev pub invariant-loop-trove : goal.invariant-loop-trove
invariant-loop-trove l = AreAllowed (take l.trove-index l.troves)
