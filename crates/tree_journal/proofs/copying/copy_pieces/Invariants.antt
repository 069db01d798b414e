use Rattle.std.proofs.Common.{◌≡◌, ◌-◌, length, take, Ok}
use Rattle.journal_log.specs.cny-base.declared.node.Node.TheVariants as node
use Rattle.journal_log.specs.tree-disk.Disk.{one_name}
use Rattle.journal_log.specs.tree-disk.Rows.{bytes_at, with_node}
use Rattle.journal_log.specs.tree-disk.Steps.{Makes}
use Rattle.tree_journal.proofs.copying.copy_pieces.Given as goal

abbrev pub invariant-pieces : goal.invariant-pieces
invariant-pieces g l = record {
  so_far : Makes {X = Unit {0}} g.D.TreeDisk.disk (one_name l.to) (λ tree. with_node tree l.to (node.File 384 (take l.at (bytes_at tree l.from)))) l.fn.disk l.disk (Ok tt);
  room : length l.piece ≡ length l.fn.piece;
}

abbrev pub decreases-pieces : goal.decreases-pieces
decreases-pieces g l = l.size - l.at
