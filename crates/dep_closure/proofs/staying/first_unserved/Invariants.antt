use Rattle.std.proofs.Common.{None}
use Rattle.std.specs.BTreeMap.{keys}
use Rattle.std.specs.Option.{option_copied}
use Rattle.dep_closure.specs.Slots.{held, held_after, IsHarmless}
use Rattle.dep_closure.proofs.Bounds.{BoundSoFar}
use Rattle.dep_closure.proofs.staying.first_unserved.Given as goal

abbrev pub invariant-loop-name : goal.invariant-loop-name
invariant-loop-name l = BoundSoFar (held_after l.slots l.edits) (IsHarmless (held l.slots) (held_after l.slots l.edits) l.requirers) None (option_copied l.lowest) (keys l.edits) l.name-iterator
