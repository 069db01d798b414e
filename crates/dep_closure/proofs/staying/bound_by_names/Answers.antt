use Rattle.std.specs.Map.Iter.{deref}
use Rattle.std.specs.Option.{option_copied}
use Rattle.std.proofs.lemmas.Map.Iter.{rest_more, rest_all}
use Rattle.dep_closure.specs.Slots.{held_after, IsServedBefore}
use Rattle.dep_closure.proofs.Bounds.{served_lower, bound_more}
use Rattle.dep_closure.proofs.Meeting.{all_passed}
use Rattle.dep_closure.proofs.staying.bound_by_names.Goals as goal

pub loop-name-preserved : goal.loop-name-preserved
loop-name-preserved c =
    let after = held_after c.args.slots.now c.args.edits.now in
    bound_more after (IsServedBefore after) (served_lower after) (option_copied c.args.bound) (option_copied c.loop-name.lowest) (option_copied c.bound_by-lowest.result) c.args.names.now.keys c.loop-name.name-iterator c.next.new.self c.in-Some.name.now c.loop-name.invariant
    (rest_more deref c.loop-name.name-iterator c.next.new.self c.next.result c.in-Some.name c.in-Some.is c.next.ensures.steps)
    c.bound_by-lowest.ensures.lowered c.bound_by-lowest.ensures.served

pub returns-clause-served : goal.returns-clause-served
returns-clause-served c = λ name among.
    all_passed (IsServedBefore (held_after c.args.slots.now c.args.edits.now) (option_copied c.loop-name.lowest)) c.args.names.now.keys c.loop-name.name-iterator c.loop-name.invariant.passed
    (rest_all deref c.loop-name.name-iterator c.next.new.self c.next.result c.in-None.is c.next.ensures.steps) name among
