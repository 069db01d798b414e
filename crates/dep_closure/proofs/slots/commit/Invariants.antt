use Rattle.std.proofs.Common.{length}
use Rattle.dep_closure.proofs.Putting.{MadeSoFar}
use Rattle.dep_closure.proofs.slots.commit.Given as goal

abbrev pub invariant-loop-name : goal.invariant-loop-name
invariant-loop-name l = MadeSoFar l.fn.slots l.fn.edits l.slots l.left

abbrev pub decreases-loop-name : goal.decreases-loop-name
decreases-loop-name l = length l.left.entries
