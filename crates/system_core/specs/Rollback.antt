-- A root before a rollback, and what a rollback of any number of jobs does to it.
use Rattle.std.specs.Prelude.{◌≡◌, ℕ, false, List, Result, OnOk}
use Rattle.std.specs.FinMap.{get}
use Rattle.rollback_stack.specs.cny-base.Reserved.{private_directory, is_reserved}
use Rattle.rollback_stack.specs.cny-base.declared.refusal.Refusal.{Refusal}
use Rattle.rollback_stack.specs.cny-base.declared.stop.Stop.{Stop}
use Rattle.rollback_stack.specs.cny-base.declared.stop.Stop.TheVariants as stop
use Rattle.rollback_stack.specs.tree-disk.Tree.{Name, Tree}
use Rattle.rollback_stack.specs.tree-disk.Disk.{DiskModel, HasRead}
use Rattle.rollback_stack.specs.tree-disk.Confined.{IsSynced, LeavesOnly}
use Rattle.rollback_stack.specs.tree-disk.Unfailed.{UnlessFailed}
use Rattle.tree_journal.specs.Recovery.{is_committed}
use Rattle.local_db.specs.declared.db.Db.{Db}
use Rattle.local_db.specs.declared.format.Format.TheVariants.{Two}
use Rattle.local_db.specs.SystemState.{SystemState, is_listed}
use Rattle.local_db.specs.Stores.{HoldsDatabase}
use Rattle.system_core.specs.RootWriting.{RecoversToEitherSystem, RestsInFormat, ShowsEither}
pub use Rattle.system_core.specs.Job.{db_of}

-- A root that is made ready, with its database: its commit flag isn't set, a crash leaves just what it reads, and this is the
-- database of its tree, in format 2.
pub record MayRollBack {D : Type 0} (disk : DiskModel D) (db : Db) (d : D) : Type 0 where
  pub flag_clear : is_committed private_directory (disk.reads d) ≡ false
  pub synced : IsSynced disk d
  pub holds : HoldsDatabase Two (disk.reads d) db.installed db.oldest db.newest

-- outside the private directory each name that isn't one of these paths reads as before
abbrev pub KeepsOtherPaths : List Name → Tree → Tree → Type 0
KeepsOtherPaths paths before now = (q : Name) → is_reserved q ≡ false → is_listed paths q ≡ false → get now q ≡ get before q

-- nothing was done but reading
abbrev pub HasOnlyRead : {D : Type 0} → DiskModel D → D → D → Type 0
HasOnlyRead disk old new = HasRead disk old new (Unit {0})

-- From the system s to the system t, which differs from it at these paths: at every moment a crash leaves a tree that recovers to
-- one of the two, and so does what the disk reads at the end; after Ok it rests at t.
pub record MovesSystem {D : Type 0} (disk : DiskModel D) (s t : SystemState) (paths : List Name) (old new : D) (result : Result ℕ Stop) : Type 0 where
  pub images : LeavesOnly disk old new (RecoversToEitherSystem s t)
  pub reads : RecoversToEitherSystem s t (disk.reads new)
  pub rests : OnOk result (RestsInFormat disk Two t new)
  pub shown : UnlessFailed disk old new (ShowsEither s t)
  pub others : KeepsOtherPaths paths (disk.reads old) (disk.reads new)

-- on every disk: a refusal of these kinds, a fault only where the count rose, and none of another disk
abbrev pub HasRollbackCause : (Refusal → Type 0) → Type 0 → Stop → Type 0
HasRollbackCause IsKind rose stop.Failed = rose
HasRollbackCause IsKind rose stop.Memory = Unit {0}
HasRollbackCause IsKind rose (stop.Refused why) = IsKind why
HasRollbackCause IsKind rose (stop.Damaged path) = Unit {0}
HasRollbackCause IsKind rose stop.FarFailed = ⊥
HasRollbackCause IsKind rose (stop.FarDamaged path) = ⊥
