use Rattle.std.proofs.Common.{◌≡◌, ◌-◌, ◌≤◌, IsTrue, Ok}
use Rattle.tree_disk.specs.Rows.{bytes_at}
use Rattle.tree_disk.specs.Steps.{Tests}
use Rattle.journal_log.specs.Walk.{are_items}
use Rattle.journal_log.proofs.walk.leads_to_end.Given as goal

abbrev pub invariant-items : goal.invariant-items
invariant-items g l = let disk = g.D.TreeDisk.disk in record {
  so_far : Tests disk (λ (done : Unit {0}). done) (λ tree. Ok tt) l.fn.disk l.disk (Ok tt);
  leads : IsTrue disk.tells → are_items l.tags l.from (bytes_at (disk.reads l.fn.disk) l.path) ≡ are_items l.tags l.at (bytes_at (disk.reads l.fn.disk) l.path);
  within : l.at ≤ l.size;
}

abbrev pub decreases-items : goal.decreases-items
decreases-items g l = l.size - l.at
