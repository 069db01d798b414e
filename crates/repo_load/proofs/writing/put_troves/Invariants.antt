use Rattle.repo_load.proofs.Written.{AreWritten}
use Rattle.repo_load.proofs.writing.put_troves.Given as goal

abbrev pub invariant-loop-trove : goal.invariant-loop-trove
invariant-loop-trove l = AreWritten l.fn.out l.troves l.trove-index l.out
