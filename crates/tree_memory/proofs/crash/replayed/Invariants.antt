use Rattle.std.proofs.Common.{◌≡◌, length}
use Rattle.tree_memory.specs.State.{state_of}
use Rattle.tree_memory.specs.Since.{after_all}
use Rattle.tree_memory.proofs.crash.replayed.Given as goal

abbrev pub invariant-loop-rest : goal.invariant-loop-rest
invariant-loop-rest l = after_all l.rest l.nodes ≡ (state_of l.first l.changes).reads

abbrev pub decreases-loop-rest : goal.decreases-loop-rest
decreases-loop-rest l = length l.rest
