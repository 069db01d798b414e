use Rattle.std.proofs.Common.{◌-◌, ◌≤◌, IsTrue, Ok}
use Rattle.tree_disk.specs.Rows.{bytes_at}
use Rattle.tree_disk.specs.Steps.{Tests}
use Rattle.content_store.proofs.Differences.{IsBehind}
use Rattle.content_store.proofs.compare.pieces_of_files.Given as goal

abbrev pub invariant-pieces : goal.invariant-pieces
invariant-pieces g l = let disk = g.D.TreeDisk.disk in record {
  so_far : Tests disk (λ (done : Unit {0}). done) (λ tree. Ok tt) l.fn.disk l.disk (Ok tt);
  behind : IsTrue disk.tells → IsBehind (bytes_at (disk.reads l.fn.disk) l.path) (bytes_at (disk.reads l.fn.disk) l.other) l.at;
  within : l.at ≤ l.other_size;
}

abbrev pub decreases-pieces : goal.decreases-pieces
decreases-pieces g l = l.other_size - l.at
