use Rattle.std.proofs.Common.{take}
use Rattle.update_job.proofs.Mapped.{PutSoFar}
use Rattle.update_job.proofs.by_name.put_all.Given as goal

abbrev pub invariant-loop-place : goal.invariant-loop-place
invariant-loop-place l = PutSoFar l.installed (take l.place-index l.places) l.fn.troves l.troves
