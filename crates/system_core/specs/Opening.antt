-- How a root is opened: its fixed directories are tested, and what a crash left is recovered.
use Rattle.std.specs.Prelude.{◌≡◌, ◌⊎◌, ◌≤◌, false, IsTrue, Result, Ok, Err, OnOk, IfErr}
use Rattle.rollback_stack.specs.cny-base.Count.{Rose}
use Rattle.rollback_stack.specs.cny-base.Reserved.{private_directory}
use Rattle.rollback_stack.specs.cny-base.declared.refusal.Refusal.{Refusal}
use Rattle.rollback_stack.specs.cny-base.declared.stop.Stop.{Stop}
use Rattle.rollback_stack.specs.cny-base.declared.stop.Stop.TheVariants as stop
use Rattle.rollback_stack.specs.tree-disk.Tree.{Name, Tree}
use Rattle.rollback_stack.specs.tree-disk.Disk.{DiskModel, HasRead}
use Rattle.rollback_stack.specs.tree-disk.Confined.{Among, Confined, IsSynced, LeavesOnly}
use Rattle.rollback_stack.specs.tree-disk.Steps.{no_name}
use Rattle.rollback_stack.specs.tree-disk.Unfailed.{UnlessFailed}
use Rattle.rollback_stack.specs.journal-log.Own.{StoresSame}
use Rattle.tree_journal.specs.Recovering.{IsVisibleIn}
use Rattle.tree_journal.specs.Recovery.{is_committed, RecoversTo, RecoversAsThen, IsDamagedAt}
use Rattle.system_core.specs.FixedDirs.{fixed_dirs}
use Rattle.tree_journal.specs.Recovered.{IsKept, IsPathRefusal, RecoversToNone, RefusesLog}

-- The commit flag isn't set, and a crash leaves just what the root reads.
pub record IsSettledRoot {D : Type 0} (disk : DiskModel D) (d : D) : Type 0 where
  pub flag_clear : is_committed private_directory (disk.reads d) ≡ false
  pub synced : IsSynced disk d

-- It is at rest, its fixed directories stood, and it stores the same as all that it recovered to.
pub record HasRecoveredRoot {D : Type 0} (disk : DiskModel D) (old new : D) : Type 0 where
  pub rests : IsSettledRoot disk new
  pub fixed : fixed_dirs (disk.reads old) ≡ Ok tt
  pub recovers : RecoversTo private_directory (disk.reads old) (disk.reads new)
  pub stores : (x : Tree) → RecoversTo private_directory (disk.reads old) x → StoresSame private_directory (disk.reads new) x

-- A fixed directory is none, or the log behind a set commit flag can't be put. No name changed or became unsynced, and a crash at any
-- moment leaves no more than at entry.
pub record RefusesToOpen {D : Type 0} (disk : DiskModel D) (old new : D) (why : Refusal) : Type 0 where
  pub cause : (fixed_dirs (disk.reads old) ≡ Err why) ⊎ RefusesLog private_directory (disk.reads old) why
  pub kept : Confined disk (Among no_name) old new

-- The log behind a set commit flag, or a file that it stages, is damaged. Nothing was changed, as above.
pub record MeetsDamagedLog {D : Type 0} (disk : DiskModel D) (old new : D) (path : Name) : Type 0 where
  pub damaged : IsDamagedAt private_directory (disk.reads old) path
  pub kept : Confined disk (Among no_name) old new

-- why a root isn't opened
abbrev pub IsOpeningStop : {D : Type 0} → DiskModel D → D → D → Stop → Type 0
IsOpeningStop disk old new stop.Failed = Rose (disk.faults old) (disk.faults new)
IsOpeningStop disk old new stop.Memory = Unit {0}
IsOpeningStop disk old new (stop.Refused why) = IsPathRefusal why × (IsTrue disk.tells → RefusesToOpen disk old new why)
IsOpeningStop disk old new (stop.Damaged path) = IsTrue disk.tells → MeetsDamagedLog disk old new path
IsOpeningStop disk old new stop.FarFailed = ⊥
IsOpeningStop disk old new (stop.FarDamaged path) = ⊥

-- A root is opened. At every moment a crash leaves an image at entry, or a tree that recovers to all that the root, as it read then,
-- recovers to; however it ends, it recovers to all that it recovered to.
pub record RecoversRoot {D : Type 0} (disk : DiskModel D) (old new : D) (result : Result (Unit {0}) Stop) : Type 0 where
  pub later : disk.faults old ≤ disk.faults new
  pub images : IsTrue disk.tells → LeavesOnly disk old new (RecoversAsThen disk private_directory old)
  pub seen : IsTrue disk.tells → UnlessFailed disk old new (IsVisibleIn private_directory (disk.reads old))
  pub opened : IsTrue disk.tells → OnOk result (HasRecoveredRoot disk old new)
  pub kept : IsTrue disk.tells → IsKept private_directory (disk.reads old) (disk.reads new)
  -- where a fixed directory is none, the root is only read; where it recovers to no tree, or its commit flag isn't set, it is left as
  -- it stands
  pub missing : IsTrue disk.tells → (why : Refusal) → fixed_dirs (disk.reads old) ≡ Err why → HasRead disk old new (Unit {0})
  pub untouched : IsTrue disk.tells → RecoversToNone private_directory (disk.reads old) → Confined disk (Among no_name) old new
  pub clear : IsTrue disk.tells → is_committed private_directory (disk.reads old) ≡ false → Confined disk (Among no_name) old new
  pub stops : IfErr result (IsOpeningStop disk old new)
