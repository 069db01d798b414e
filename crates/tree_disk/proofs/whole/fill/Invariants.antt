use Rattle.std.proofs.Common.{length, ◌-◌}
use Rattle.tree_disk.proofs.ReadAll.{SoFar}
use Rattle.tree_disk.proofs.whole.fill.Given as goal

abbrev pub invariant-pieces : goal.invariant-pieces
invariant-pieces g l = SoFar g.D.TreeDisk.disk l.path l.size l.bytes.items l.fn.disk l.disk

abbrev pub decreases-pieces : goal.decreases-pieces
decreases-pieces g l = l.size - length l.bytes.items
