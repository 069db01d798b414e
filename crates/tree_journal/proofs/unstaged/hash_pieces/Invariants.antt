use Rattle.std.proofs.Common.{◌≡◌, ◌-◌, length, take, Ok}
use Rattle.sha1.specs.Sha1.{Holds}
use Rattle.journal_log.specs.tree-disk.Rows.{bytes_at}
use Rattle.tree_journal.specs.Found.{Finds}
use Rattle.tree_journal.proofs.unstaged.hash_pieces.Given as goal

abbrev pub invariant-pieces : goal.invariant-pieces
invariant-pieces g l = record {
  so_far : Finds {X = Unit {0}} g.D.TreeDisk.disk (λ tree x. Holds l.hasher (take l.at (bytes_at tree l.path))) l.fn.disk l.disk (Ok tt);
  room : length l.piece ≡ length l.fn.piece;
}

abbrev pub decreases-pieces : goal.decreases-pieces
decreases-pieces g l = l.size - l.at
