use Rattle.std.proofs.Common.{take}
use Rattle.dep_closure.proofs.Putting.{TakenSoFar}
use Rattle.dep_closure.proofs.slots.take_names.Given as goal

abbrev pub invariant-loop-name : goal.invariant-loop-name
invariant-loop-name l = TakenSoFar l.fn.slots l.slots (take l.name-index l.names)
