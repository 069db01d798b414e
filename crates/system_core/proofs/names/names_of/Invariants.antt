use Rattle.std.proofs.Common.{◌≡◌, take}
use Rattle.system_core.specs.Changing.{names_changed}
use Rattle.system_core.proofs.names.names_of.Given as goal

abbrev pub invariant-loop-change : goal.invariant-loop-change
invariant-loop-change l = l.names.items ≡ names_changed (take l.change-index l.changes)
