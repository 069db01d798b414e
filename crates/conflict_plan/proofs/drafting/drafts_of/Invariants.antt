use Rattle.std.proofs.Common.{◌≡◌, IsTrue, Ok, length, drop}
use Rattle.tree_scan.specs.tree-disk.Steps.{Tests}
use Rattle.conflict_plan.specs.Drafts.{drafts_of}
use Rattle.conflict_plan.proofs.Ahead.{ahead_of}
use Rattle.conflict_plan.proofs.Picking.{PicksOn}
use Rattle.conflict_plan.proofs.drafting.drafts_of.Given as goal

abbrev pub invariant-loop-entry : goal.invariant-loop-entry
invariant-loop-entry g l = let disk = g.D.TreeDisk.disk in record {
  so_far : Tests disk (λ (done : Unit {0}). done) (λ tree. Ok tt) l.fn.disk l.disk (Ok tt);
  ahead : IsTrue disk.tells → drafts_of l.options (disk.reads l.fn.disk) l.fn.entries.items
      ≡ ahead_of l.drafts.items (drafts_of l.options (disk.reads l.fn.disk) (drop (length l.yielded) l.fn.entries.items));
  picks : PicksOn l.fn.entries.items (length l.yielded) l.drafts.items;
}
