-- How a root is made ready for a command.
use Rattle.std.specs.Prelude.{◌≡◌, ◌⊎◌, ◌≤◌, true, false, IsTrue, Result, Ok, Err, OnOk, IfOk, IfErr}
use Rattle.std.specs.FinMap.{get}
use Rattle.rollback_stack.specs.cny-base.Count.{Rose}
use Rattle.rollback_stack.specs.cny-base.Reserved.{private_directory, is_reserved}
use Rattle.rollback_stack.specs.cny-base.declared.refusal.Refusal.{Refusal}
use Rattle.rollback_stack.specs.cny-base.declared.stop.Stop.{Stop}
use Rattle.rollback_stack.specs.cny-base.declared.stop.Stop.TheVariants as stop
use Rattle.rollback_stack.specs.tree-disk.Tree.{Name, Tree, AgreesOutside}
use Rattle.rollback_stack.specs.tree-disk.Disk.{DiskModel, HasRead, IsImageOf}
use Rattle.rollback_stack.specs.tree-disk.Confined.{Among, Confined, LeavesOnly}
use Rattle.rollback_stack.specs.tree-disk.Steps.{no_name}
use Rattle.rollback_stack.specs.tree-disk.Unfailed.{UnlessFailed}
use Rattle.rollback_stack.specs.journal-log.Own.{StoresSame}
use Rattle.tree_journal.specs.Recovery.{RecoversTo, is_committed}
use Rattle.tree_journal.specs.Visible.{ShowsNode}
use Rattle.local_db.specs.declared.db.Db.{Db}
use Rattle.local_db.specs.Loading.{HoldsDb}
use Rattle.local_db.specs.declared.format.Format.TheVariants.{Two}
use Rattle.local_db.specs.Names.{database}
use Rattle.local_db.specs.SystemState.{SystemState}
use Rattle.local_db.specs.Stores.{IsDatabase, RecoversToSystem}
use Rattle.system_core.specs.RootReady.{MayBeginJob}
use Rattle.system_core.specs.RootWriting.{RestsInFormat}
use Rattle.rollback_stack.specs.Migrated.{is_up_to_date}
use Rattle.system_core.specs.FixedDirs.{fixed_dirs}
use Rattle.system_core.specs.Migrating.{IsBrought, IsDamagedStore, RecoversInAFormat}
use Rattle.system_core.specs.Opening.{IsSettledRoot, RefusesToOpen, MeetsDamagedLog}
use Rattle.tree_journal.specs.Recovered.{IsPathRefusal, RecoversToNone}
pub use Rattle.system_core.specs.Job.{db_of}

-- ---- by the trees to which the root recovers

-- A crash image at entry; or a tree that recovers to each tree to which the root recovered at entry, as it is or in format 2.
abbrev pub IsOnTheWay : {D : Type 0} → DiskModel D → D → Tree → Type 0
IsOnTheWay disk d image = IsImageOf disk d image ⊎ ((x : Tree) → RecoversTo private_directory (disk.reads d) x → RecoversInAFormat x image)

-- Readers see at each name outside the private directory the node before, that of a tree to which the root recovered, or nothing where
-- just one of the two is a directory.
abbrev pub ShowsOnTheWay : Tree → Tree → Tree → Type 0
ShowsOnTheWay before x shown = (q : Name) → is_reserved q ≡ false → ShowsNode (get before q) (get x q) (get shown q)

-- The root stores the tree x in format 2, and this is the database that x holds, in either format. Outside the private directory it
-- reads as x.
pub record IsReadied {D : Type 0} (disk : DiskModel D) (db : Db) (new : D) (x : Tree) : Type 0 where
  pub brought : IsBrought x (disk.reads new)
  pub outer : AgreesOutside is_reserved (disk.reads new) x
  pub held : HoldsDb x db

-- The root is ready. Its fixed directories stood, it recovered to a tree, and it stores each tree to which it recovered in format 2.
pub record HasReadied {D : Type 0} (disk : DiskModel D) (old new : D) (db : Db) : Type 0 where
  pub ready : MayBeginJob disk db new
  pub fixed : fixed_dirs (disk.reads old) ≡ Ok tt
  pub recovered : (x : Tree) × RecoversTo private_directory (disk.reads old) x
  pub readied : (x : Tree) → RecoversTo private_directory (disk.reads old) x → IsReadied disk db new x

-- The root recovered to a tree, and in each tree to which it recovered this file is damaged. It is at rest, and stores just that tree.
pub record MeetsDamagedStore {D : Type 0} (disk : DiskModel D) (old new : D) (path : Name) : Type 0 where
  pub recovered : (x : Tree) × RecoversTo private_directory (disk.reads old) x
  pub damaged : (x : Tree) → RecoversTo private_directory (disk.reads old) x → IsDamagedStore x path
  pub stores : (x : Tree) → RecoversTo private_directory (disk.reads old) x → StoresSame private_directory (disk.reads new) x
  pub rests : IsSettledRoot disk new

-- Why a root isn't made ready. On every disk a refusal is that of a path.
abbrev pub IsReadyStop : {D : Type 0} → DiskModel D → D → D → Stop → Type 0
IsReadyStop disk old new stop.Failed = Rose (disk.faults old) (disk.faults new)
IsReadyStop disk old new stop.Memory = Unit {0}
IsReadyStop disk old new (stop.Refused why) = IsPathRefusal why × (IsTrue disk.tells → RefusesToOpen disk old new why)
IsReadyStop disk old new (stop.Damaged path) = IsTrue disk.tells → MeetsDamagedLog disk old new path ⊎ MeetsDamagedStore disk old new path
IsReadyStop disk old new stop.FarFailed = ⊥
IsReadyStop disk old new (stop.FarDamaged path) = ⊥

-- What is promised of trees, and on every disk.
pub record Readies {D : Type 0} (disk : DiskModel D) (old new : D) (result : Result Db Stop) : Type 0 where
  pub later : disk.faults old ≤ disk.faults new
  pub images : IsTrue disk.tells → LeavesOnly disk old new (IsOnTheWay disk old)
  pub reads : IsTrue disk.tells → (x : Tree) → RecoversTo private_directory (disk.reads old) x → RecoversInAFormat x (disk.reads new)
  pub shown : IsTrue disk.tells → UnlessFailed disk old new (λ t. (x : Tree) → RecoversTo private_directory (disk.reads old) x → ShowsOnTheWay (disk.reads old) x t)
  pub readied : IsTrue disk.tells → IfOk result (HasReadied disk old new)
  -- where a fixed directory is none, the root is only read; where it recovers to no tree, or its commit flag isn't set and its database is
  -- up to date, it is left as it stands
  pub missing : IsTrue disk.tells → (why : Refusal) → fixed_dirs (disk.reads old) ≡ Err why → HasRead disk old new (Unit {0})
  pub untouched : IsTrue disk.tells → RecoversToNone private_directory (disk.reads old) → Confined disk (Among no_name) old new
  pub clear : IsTrue disk.tells → is_committed private_directory (disk.reads old) ≡ false → is_up_to_date (get (disk.reads old) database) ≡ true
      → Confined disk (Among no_name) old new
  -- where its commit flag isn't set, no name outside the private directory is another, however it ends
  pub outer : IsTrue disk.tells → is_committed private_directory (disk.reads old) ≡ false → AgreesOutside is_reserved (disk.reads new) (disk.reads old)
  pub database : IfOk result (λ db. IsDatabase Two db.installed db.oldest db.newest)
  pub stops : IfErr result (IsReadyStop disk old new)

-- ---- by a system to which the root recovers

-- Nothing is damaged of a root that recovers to a system, and the one refusal is that of a fixed directory.
abbrev pub EndsReady : SystemState → Tree → Result Db Stop → Type 0
EndsReady s before (Ok db) = db ≡ db_of s
EndsReady s before (Err (stop.Refused why)) = fixed_dirs before ≡ Err why
EndsReady s before (Err stop.Failed) = Unit {0}
EndsReady s before (Err stop.Memory) = Unit {0}
EndsReady s before (Err (stop.Damaged path)) = ⊥
EndsReady s before (Err stop.FarFailed) = ⊥
EndsReady s before (Err (stop.FarDamaged path)) = ⊥

-- At every moment a crash leaves an image at entry, or a tree that recovers to the system; what the root reads at the end recovers to
-- it; after Ok the root rests at it, in format 2, with its database.
pub record MakesReady {D : Type 0} (disk : DiskModel D) (s : SystemState) (old new : D) (result : Result Db Stop) : Type 0 where
  pub ends : EndsReady s (disk.reads old) result
  pub images : LeavesOnly disk old new (λ image. IsImageOf disk old image ⊎ RecoversToSystem image s)
  pub reads : RecoversToSystem (disk.reads new) s
  pub rests : OnOk result (RestsInFormat disk Two s new)
  pub shown : UnlessFailed disk old new (ShowsOnTheWay (disk.reads old) s.tree)
