use Rattle.std.proofs.Common.{◌≡◌, ◌-◌, ◌≤◌, ◌<◌, IsTrue, Ok, take, length}
use Rattle.tree_disk.specs.cny-base.Compare.{count_of_differing}
use Rattle.tree_disk.specs.Rows.{bytes_at}
use Rattle.tree_disk.specs.Steps.{Tests}
use Rattle.tree_scan.proofs.counting.pieces_differing.Given as goal

abbrev pub invariant-pieces : goal.invariant-pieces
invariant-pieces g l = let disk = g.D.TreeDisk.disk in record {
  so_far : Tests disk (λ (done : Unit {0}). done) (λ tree. Ok tt) l.fn.disk l.disk (Ok tt);
  counted : IsTrue disk.tells → l.count ≡ count_of_differing (bytes_at (disk.reads l.fn.disk) l.path) (take l.at l.bytes);
  few : l.count ≤ l.at;
  within : l.at ≤ length l.bytes;
  room : 0 < length l.buf;
}

abbrev pub decreases-pieces : goal.decreases-pieces
decreases-pieces g l = length l.bytes - l.at
