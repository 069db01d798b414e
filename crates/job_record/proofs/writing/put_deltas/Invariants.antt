use Rattle.job_record.proofs.Written.{AreWritten}
use Rattle.job_record.proofs.writing.put_deltas.Given as goal

abbrev pub invariant-loop-delta : goal.invariant-loop-delta
invariant-loop-delta l = AreWritten l.fn.out l.deltas l.delta-index l.out
