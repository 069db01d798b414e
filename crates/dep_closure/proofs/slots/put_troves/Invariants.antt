use Rattle.std.proofs.Common.{take}
use Rattle.dep_closure.proofs.Putting.{PutSoFar}
use Rattle.dep_closure.proofs.slots.put_troves.Given as goal

abbrev pub invariant-loop-trove : goal.invariant-loop-trove
invariant-loop-trove l = PutSoFar l.fn.slots l.slots (take l.trove-index l.list)
