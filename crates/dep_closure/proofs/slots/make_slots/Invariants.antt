use Rattle.std.specs.BTreeMap.{keys}
use Rattle.dep_closure.proofs.Putting.{RoomSoFar}
use Rattle.dep_closure.proofs.slots.make_slots.Given as goal

abbrev pub invariant-loop-name : goal.invariant-loop-name
invariant-loop-name l = RoomSoFar l.fn.slots l.slots (keys l.edits) l.name-iterator
