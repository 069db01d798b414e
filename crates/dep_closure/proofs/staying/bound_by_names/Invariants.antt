use Rattle.std.specs.Option.{option_copied}
use Rattle.dep_closure.specs.Slots.{held_after, IsServedBefore}
use Rattle.dep_closure.proofs.Bounds.{BoundSoFar}
use Rattle.dep_closure.proofs.staying.bound_by_names.Given as goal

abbrev pub invariant-loop-name : goal.invariant-loop-name
invariant-loop-name l = BoundSoFar (held_after l.slots l.edits) (IsServedBefore (held_after l.slots l.edits)) (option_copied l.fn.bound) (option_copied l.lowest) l.names.keys l.name-iterator
