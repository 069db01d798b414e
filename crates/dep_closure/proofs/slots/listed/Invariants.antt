use Rattle.std.proofs.Common.{◌≡◌, ◌++◌}
use Rattle.std.specs.BTreeMap.{keys}
use Rattle.dep_closure.specs.Slots.{held_after, listed}
use Rattle.dep_closure.proofs.slots.listed.Given as goal

abbrev pub invariant-loop-name : goal.invariant-loop-name
invariant-loop-name l = l.list.items ++ listed (held_after l.slots l.edits) l.name-iterator ≡ listed (held_after l.slots l.edits) (keys l.slots)
