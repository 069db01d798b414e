use Rattle.std.proofs.Common.{take}
use Rattle.update_job.proofs.Mapped.{AdmittedSoFar}
use Rattle.update_job.proofs.by_name.by_name.Given as goal

abbrev pub invariant-loop-trove : goal.invariant-loop-trove
invariant-loop-trove l = AdmittedSoFar (take l.trove-index l.list) l.troves
