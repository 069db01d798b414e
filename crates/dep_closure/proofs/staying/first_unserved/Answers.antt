use Rattle.std.proofs.Common.{None}
use Rattle.std.specs.BTreeMap.{is_at, keys}
use Rattle.std.specs.Cmp.Lexicographic.{slice_cmp}
use Rattle.std.specs.Map.Iter.{deref}
use Rattle.std.specs.Option.{option_copied}
use Rattle.std.specs.Ordering.{nat_cmp}
use Rattle.std.proofs.lemmas.Map.Iter.{rest_more, rest_all}
use Rattle.dep_closure.specs.Slots.{held, held_after, IsHarmless}
use Rattle.dep_closure.proofs.Bounds.{harmless_lower, bound_more}
use Rattle.dep_closure.proofs.Meeting.{all_passed}
use Rattle.dep_closure.proofs.Names.{is_key}
use Rattle.dep_closure.proofs.staying.first_unserved.Goals as goal

pub loop-name-preserved : goal.loop-name-preserved
loop-name-preserved c =
    let was = held c.args.slots.now in
    let after = held_after c.args.slots.now c.args.edits.now in
    bound_more after (IsHarmless was after c.args.requirers.now) (harmless_lower was after c.args.requirers.now) None (option_copied c.loop-name.lowest) (option_copied c.bound_by_edit-lowest.result) (keys c.args.edits.now) c.loop-name.name-iterator c.next.new.self
    c.in-Some.name.now c.loop-name.invariant
    (rest_more deref c.loop-name.name-iterator c.next.new.self c.next.result c.in-Some.name c.in-Some.is c.next.ensures.steps)
    c.bound_by_edit-lowest.ensures.lowered c.bound_by_edit-lowest.ensures.harmless

pub returns-clause-harmless : goal.returns-clause-harmless
returns-clause-harmless c = λ name some.
    all_passed (IsHarmless (held c.args.slots.now) (held_after c.args.slots.now c.args.edits.now) c.args.requirers.now (option_copied c.loop-name.lowest)) (keys c.args.edits.now) c.loop-name.name-iterator c.loop-name.invariant.passed
    (rest_all deref c.loop-name.name-iterator c.next.new.self c.next.result c.in-None.is c.next.ensures.steps)
    name (is_key (is_at (slice_cmp nat_cmp name)) c.args.edits.now.entries some)

pub returns-clause-unserved : goal.returns-clause-unserved
returns-clause-unserved c = c.loop-name.invariant.lowered.unserved tt
