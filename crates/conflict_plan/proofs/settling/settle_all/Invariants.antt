use Rattle.std.proofs.Common.{◌≡◌, IsTrue, Ok, length}
use Rattle.std.specs.List.{All}
use Rattle.tree_scan.specs.tree-disk.Steps.{Tests}
use Rattle.conflict_plan.specs.Settled.{settled, settled_on, IsSeen}
use Rattle.conflict_plan.proofs.Picking.{KeepsBehind}
use Rattle.conflict_plan.proofs.settling.settle_all.Given as goal

abbrev pub invariant-drafts : goal.invariant-drafts
invariant-drafts g l = let disk = g.D.TreeDisk.disk in record {
  so_far : Tests disk (λ (done : Unit {0}). done) (λ tree. Ok tt) l.fn.disk l.disk (Ok tt);
  rest : IsTrue disk.tells → settled (disk.reads l.fn.disk) l.fn.drafts.items ≡ settled_on (disk.reads l.fn.disk) l.drafts.items l.plan;
  seen : IsTrue disk.tells → All (IsSeen (disk.reads l.fn.disk)) l.drafts.items;
  keeps : KeepsBehind l.fn.drafts.items l.drafts.items l.plan;
}

abbrev pub decreases-drafts : goal.decreases-drafts
decreases-drafts g l = length l.drafts.items
