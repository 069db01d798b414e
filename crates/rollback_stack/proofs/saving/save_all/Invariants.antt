use Rattle.std.proofs.Common.{◌≤◌, IsTrue, take}
use Rattle.job_targets.specs.tree-disk.Clear.{is_within}
use Rattle.job_targets.specs.tree-disk.Confined.{Among, Confined}
use Rattle.local_db.specs.Names.{saved}
use Rattle.rollback_stack.specs.Saving.{HoldsOld}
use Rattle.rollback_stack.proofs.saving.save_all.Given as goal

abbrev pub invariant-loop-entry : goal.invariant-loop-entry
invariant-loop-entry g l =
    record {
      later : g.D.TreeDisk.disk.faults l.fn.disk ≤ g.D.TreeDisk.disk.faults l.disk;
      confined : IsTrue g.D.TreeDisk.disk.tells → Confined g.D.TreeDisk.disk (Among (is_within (saved l.fn.number))) l.fn.disk l.disk;
      holds : IsTrue g.D.TreeDisk.disk.tells → HoldsOld (take l.entry-index l.entries) (saved l.fn.number) (g.D.TreeDisk.disk.reads l.disk);
    }
