use Rattle.std.proofs.Common.{take}
use Rattle.job_record.specs.Recorded.{HasNotedAll}
use Rattle.job_record.proofs.recorded.note_troves.Given as goal

abbrev pub invariant-loop-trove : goal.invariant-loop-trove
invariant-loop-trove l = HasNotedAll l.changes (take l.trove-index l.list) l.fn.marks l.marks
