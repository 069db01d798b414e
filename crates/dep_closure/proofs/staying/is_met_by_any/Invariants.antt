use Rattle.dep_closure.specs.Slots.{held_after, IsNoProvider}
use Rattle.dep_closure.proofs.Meeting.{PassedSoFar}
use Rattle.dep_closure.proofs.staying.is_met_by_any.Given as goal

abbrev pub invariant-loop-name : goal.invariant-loop-name
invariant-loop-name l = PassedSoFar (IsNoProvider (held_after l.slots l.edits) l.require) l.names.keys l.name-iterator
