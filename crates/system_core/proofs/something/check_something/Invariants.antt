use Rattle.std.proofs.Common.{take, All}
use Rattle.system_core.proofs.Lacking.{IsSomeEntry}
use Rattle.system_core.proofs.something.check_something.Given as goal

abbrev pub invariant-loop-entry : goal.invariant-loop-entry
invariant-loop-entry l = All IsSomeEntry (take l.entry-index l.entries)
