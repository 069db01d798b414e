use Rattle.std.proofs.Common.{◌≡◌, ◌≤◌, IsTrue}
use Rattle.local_db.specs.Formats.{Fits}
use Rattle.local_db.specs.Installed.{IsInstalled}
use Rattle.local_db.specs.declared.format.Format.TheVariants.{Two}
use Rattle.job_targets.specs.tree-disk.Disk.{HasRead}
use Rattle.rollback_stack.specs.Taking.{AreTaken}
use Rattle.rollback_stack.proofs.jobs.jobs_down_to.Given as goal

abbrev pub invariant-loop-below : goal.invariant-loop-below
invariant-loop-below g l = let disk = g.D.TreeDisk.disk in record {
  later : disk.faults l.fn.disk ≤ disk.faults l.disk;
  read : IsTrue disk.tells → HasRead disk l.fn.disk l.disk (Unit {0});
  format : l.back.list.format ≡ Two;
  installed : IsInstalled l.back.list.troves;
  fits : Fits Two l.back.list.troves;
  taken : IsTrue disk.tells → AreTaken (disk.reads l.fn.disk) l.db l.below l.back.list.troves l.back.found;
}
