use Rattle.change_set.proofs.Written.{ArePartsWritten}
use Rattle.change_set.proofs.writing.put_parts.Given as goal

abbrev pub invariant-loop-part : goal.invariant-loop-part
invariant-loop-part l = ArePartsWritten l.fn.out l.parts l.part-index l.out
