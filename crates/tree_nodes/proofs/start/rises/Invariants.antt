use Rattle.std.proofs.Common.{◌≡◌, length}
use Rattle.tree_nodes.specs.Start.{rise}
use Rattle.tree_nodes.proofs.start.rises.Given as goal

abbrev pub invariant-loop-rest : goal.invariant-loop-rest
invariant-loop-rest l = rise l.nodes ≡ rise l.rest

abbrev pub decreases-loop-rest : goal.decreases-loop-rest
decreases-loop-rest l = length l.rest
