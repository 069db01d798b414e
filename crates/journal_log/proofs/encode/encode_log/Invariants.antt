use Rattle.journal_log.proofs.Encoding.{IsWritten}
use Rattle.journal_log.proofs.encode.encode_log.Given as goal

abbrev pub invariant-loop-put : goal.invariant-loop-put
invariant-loop-put l = IsWritten l.items l.put-index l.out
