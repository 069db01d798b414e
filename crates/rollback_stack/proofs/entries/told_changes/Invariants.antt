use Rattle.std.proofs.Common.{◌≡◌, map, take}
use Rattle.rollback_stack.specs.Entries.{told_of}
use Rattle.rollback_stack.proofs.entries.told_changes.Given as goal

abbrev pub invariant-loop-entry : goal.invariant-loop-entry
invariant-loop-entry l = l.changes.items ≡ map told_of (take l.entry-index l.entries)
