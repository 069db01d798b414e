use Rattle.std.proofs.Common.{take}
use Rattle.update_job.specs.Changes.{IsLost}
use Rattle.update_job.proofs.Noting.{NotedSoFar}
use Rattle.update_job.proofs.comparing.note_all_lost.Given as goal

abbrev pub invariant-loop-trove : goal.invariant-loop-trove
invariant-loop-trove l = NotedSoFar (IsLost l.after) (take l.trove-index l.troves) l.fn.changes l.changes
