use Rattle.std.proofs.Common.{length, ◌-◌, ◌≤◌, IsTrue, Ok}
use Rattle.tree_disk.specs.Rows.{bytes_at}
use Rattle.tree_disk.specs.Steps.{Tests}
use Rattle.content_store.proofs.Differences.{IsBehind}
use Rattle.content_store.proofs.compare.pieces_of_file.Given as goal

abbrev pub invariant-pieces : goal.invariant-pieces
invariant-pieces g l = let disk = g.D.TreeDisk.disk in record {
  so_far : Tests disk (λ (done : Unit {0}). done) (λ tree. Ok tt) l.fn.disk l.disk (Ok tt);
  behind : IsTrue disk.tells → IsBehind (bytes_at (disk.reads l.fn.disk) l.path) l.bytes l.at;
  within : l.at ≤ length l.bytes;
}

abbrev pub decreases-pieces : goal.decreases-pieces
decreases-pieces g l = length l.bytes - l.at
