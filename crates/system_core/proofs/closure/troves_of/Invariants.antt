use Rattle.std.proofs.Common.{◌≡◌, take}
use Rattle.system_core.specs.Changing.{troves_named}
use Rattle.system_core.proofs.closure.troves_of.Given as goal

abbrev pub invariant-loop-name : goal.invariant-loop-name
invariant-loop-name l = l.troves.items ≡ troves_named l.list (take l.name-index l.names)
