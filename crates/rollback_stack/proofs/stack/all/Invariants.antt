use Rattle.std.proofs.Common.{◌≡◌, ◌≤◌, IsTrue}
use Rattle.local_db.specs.Installed.{IsInstalled}
use Rattle.local_db.specs.declared.format.Format.TheVariants.{Two}
use Rattle.job_targets.specs.tree-disk.Disk.{HasRead}
use Rattle.rollback_stack.proofs.Noting.{AreNotedTo}
use Rattle.rollback_stack.proofs.stack.all.Given as goal

abbrev pub invariant-loop-below : goal.invariant-loop-below
invariant-loop-below g l = let disk = g.D.TreeDisk.disk in record {
  later : disk.faults l.fn.disk ≤ disk.faults l.disk;
  read : IsTrue disk.tells → HasRead disk l.fn.disk l.disk (Unit {0});
  format : l.list.format ≡ Two;
  installed : IsInstalled l.list.troves;
  noted : IsTrue disk.tells → AreNotedTo (disk.reads l.fn.disk) l.db.newest l.below l.db.installed l.list.troves l.notes.items;
}
