use Rattle.std.proofs.Common.{◌≡◌, IsTrue, Ok, reverse, take}
use Rattle.tree_scan.specs.tree-disk.Steps.{Tests}
use Rattle.conflict_plan.specs.Orphans.{least_orphan}
use Rattle.conflict_plan.proofs.orphans.first_orphan.Given as goal

abbrev pub invariant-loop-planned : goal.invariant-loop-planned
invariant-loop-planned g l = let disk = g.D.TreeDisk.disk in record {
  so_far : Tests disk (λ (done : Unit {0}). done) (λ tree. Ok tt) l.fn.disk l.disk (Ok tt);
  least : IsTrue disk.tells → l.least ≡ least_orphan l.plan (disk.reads l.fn.disk) (reverse (take l.planned-index l.all));
}
