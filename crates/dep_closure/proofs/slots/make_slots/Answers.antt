use Rattle.std.specs.BTreeMap.{keys}
use Rattle.std.specs.Map.Iter.{deref}
use Rattle.std.proofs.lemmas.Map.Iter.{rest_more}
use Rattle.dep_closure.proofs.Putting.{room_more}
use Rattle.dep_closure.proofs.slots.make_slots.Goals as goal

pub loop-name-preserved : goal.loop-name-preserved
loop-name-preserved c =
    room_more c.args.slots.now c.loop-name.slots c.make_slot.new.slots (keys c.args.edits.now) c.loop-name.name-iterator c.next.new.self c.in-Some.name.now c.loop-name.invariant
    (rest_more deref c.loop-name.name-iterator c.next.new.self c.next.result c.in-Some.name c.in-Some.is c.next.ensures.steps)
    c.make_slot.ensures.ordered c.in_ok-make_slot.ensures.made c.make_slot.ensures.kept c.make_slot.ensures.same
