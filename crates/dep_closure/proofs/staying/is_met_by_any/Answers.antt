use Rattle.std.specs.Map.Iter.{deref}
use Rattle.std.proofs.lemmas.Map.Iter.{rest_more, rest_all}
use Rattle.dep_closure.specs.Slots.{held_after, IsNoProvider}
use Rattle.dep_closure.proofs.Meeting.{one_passed, all_passed}
use Rattle.dep_closure.proofs.staying.is_met_by_any.Goals as goal

pub loop-name-preserved : goal.loop-name-preserved
loop-name-preserved c =
    one_passed (IsNoProvider (held_after c.args.slots.now c.args.edits.now) c.args.require.now) c.args.names.now.keys c.loop-name.name-iterator c.next.new.self c.in-Some.name.now c.loop-name.invariant
    (rest_more deref c.loop-name.name-iterator c.next.new.self c.next.result c.in-Some.name c.in-Some.is c.next.ensures.steps)
    (c.is_met_by.ensures.unmet c.if-is_met_by.false)

pub returns-clause-unmet : goal.returns-clause-unmet
returns-clause-unmet c = λ _ name among.
    all_passed (IsNoProvider (held_after c.args.slots.now c.args.edits.now) c.args.require.now) c.args.names.now.keys c.loop-name.name-iterator c.loop-name.invariant
    (rest_all deref c.loop-name.name-iterator c.next.new.self c.next.result c.in-None.is c.next.ensures.steps) name among
