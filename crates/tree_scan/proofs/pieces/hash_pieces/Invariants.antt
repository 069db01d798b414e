use Rattle.std.proofs.Common.{◌-◌, ◌≤◌, ◌<◌, IsTrue, Ok, take, length}
use Rattle.sha1.specs.Sha1.{Holds}
use Rattle.tree_disk.specs.Rows.{bytes_at}
use Rattle.tree_disk.specs.Steps.{Tests}
use Rattle.tree_scan.proofs.pieces.hash_pieces.Given as goal

abbrev pub invariant-pieces : goal.invariant-pieces
invariant-pieces g l = let disk = g.D.TreeDisk.disk in record {
  so_far : Tests disk (λ (done : Unit {0}). done) (λ tree. Ok tt) l.fn.disk l.disk (Ok tt);
  given : IsTrue disk.tells → Holds l.hasher (take l.at (bytes_at (disk.reads l.fn.disk) l.path));
  within : l.at ≤ l.size;
  room : 0 < length l.buf;
}

abbrev pub decreases-pieces : goal.decreases-pieces
decreases-pieces g l = l.size - l.at
