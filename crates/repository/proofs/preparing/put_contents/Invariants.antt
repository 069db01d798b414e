use Rattle.std.proofs.Common.{◌≤◌, IsTrue, take}
use Rattle.repo_load.specs.tree-disk.Confined.{Confined}
use Rattle.repository.specs.Preparing.{AreStored, IsCarriedName}
use Rattle.repository.proofs.preparing.put_contents.Given as goal

abbrev pub ghost-put_new : goal.ghost-put_new
ghost-put_new g a = g.listed

abbrev pub invariant-loop-place : goal.invariant-loop-place
invariant-loop-place g l =
    record {
      later : g.D.TreeDisk.disk.faults l.fn.disk ≤ g.D.TreeDisk.disk.faults l.disk;
      confined : IsTrue g.D.TreeDisk.disk.tells → Confined g.D.TreeDisk.disk (IsCarriedName l.committed g.listed) l.fn.disk l.disk;
      stand : IsTrue g.D.TreeDisk.disk.tells → AreStored l.committed (take l.place g.listed) (g.D.TreeDisk.disk.reads l.disk);
    }
