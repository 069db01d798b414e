use Rattle.std.proofs.Common.{take}
use Rattle.update_job.specs.Changes.{IsFresh}
use Rattle.update_job.proofs.Noting.{NotedSoFar}
use Rattle.update_job.proofs.comparing.note_all_fresh.Given as goal

abbrev pub invariant-loop-trove : goal.invariant-loop-trove
invariant-loop-trove l = NotedSoFar (IsFresh l.before) (take l.trove-index l.troves) l.fn.changes l.changes
