use Rattle.std.proofs.Common.{take}
use Rattle.root_edits.proofs.Listed.{InstalledSoFar}
use Rattle.root_edits.proofs.asked.check_names.Given as goal

abbrev pub invariant-loop-name : goal.invariant-loop-name
invariant-loop-name l = InstalledSoFar l.installed (take l.name-index l.names)
