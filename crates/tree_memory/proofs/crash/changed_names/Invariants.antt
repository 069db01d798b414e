use Rattle.std.proofs.Common.{length}
use Rattle.tree_memory.proofs.Changed.{NamesSoFar}
use Rattle.tree_memory.proofs.crash.changed_names.Given as goal

abbrev pub invariant-loop-rest : goal.invariant-loop-rest
invariant-loop-rest l = NamesSoFar l.names l.rest l.changes

abbrev pub decreases-loop-rest : goal.decreases-loop-rest
decreases-loop-rest l = length l.rest
