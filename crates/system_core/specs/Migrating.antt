-- How a root at rest is brought to format 2, and its database loaded.
use Rattle.std.specs.Prelude.{◌≡◌, ◌⊎◌, ◌≤◌, true, IsTrue, List, Option, Some, None, Result, OnOk, IfOk, IfErr}
use Rattle.std.specs.FinMap.{get}
use Rattle.rollback_stack.specs.cny-base.Count.{Rose}
use Rattle.rollback_stack.specs.cny-base.Reserved.{private_directory, is_reserved}
use Rattle.rollback_stack.specs.cny-base.declared.stop.Stop.{Stop}
use Rattle.rollback_stack.specs.tree-disk.Tree.{Name, Tree, AgreesOutside}
use Rattle.rollback_stack.specs.tree-disk.Disk.{DiskModel, HasRead}
use Rattle.rollback_stack.specs.tree-disk.Confined.{LeavesOnly}
use Rattle.rollback_stack.specs.tree-disk.Unfailed.{UnlessFailed}
use Rattle.rollback_stack.specs.journal-log.declared.put.Put.{Put}
use Rattle.rollback_stack.specs.journal-log.Own.{StoresSame}
use Rattle.rollback_stack.specs.journal-log.Targets.{with_targets}
use Rattle.tree_journal.specs.Recovery.{RecoversTo}
use Rattle.rollback_stack.specs.JobReading.{IsReadStop}
use Rattle.local_db.specs.declared.format.Format.TheVariants.{Two}
use Rattle.local_db.specs.Names.{database}
use Rattle.local_db.specs.Stores.{HoldsDatabase, IsDatabase}
use Rattle.local_db.specs.declared.db.Db.{Db}
use Rattle.local_db.specs.Loading.{HoldsDb, HoldsNoDb}
use Rattle.rollback_stack.specs.Migrated.{IsDamagedFile, IsMigrated, is_up_to_date}
use Rattle.system_core.specs.Opening.{IsSettledRoot}

-- ---- of trees

-- the tree with the writes of its migration, where there are any
abbrev pub with_migration : Option (List Put) → Tree → Tree
with_migration None x = x
with_migration (Some puts) x = with_targets puts x

-- The tree y stores the same as x in format 2: as x where that is up to date, and else x with the writes of its migration.
pub record IsBrought (x y : Tree) : Type 0 where
  pub found : Option (List Put)
  pub migrated : IsMigrated x found
  pub stores : StoresSame private_directory y (with_migration found x)

-- the tree recovers to x as it is, or in format 2
abbrev pub RecoversInAFormat : Tree → Tree → Type 0
RecoversInAFormat x image = RecoversTo private_directory image x ⊎ ((y : Tree) × IsBrought x y × RecoversTo private_directory image y)

-- the file of the database is damaged, or in format 1 that of a record
abbrev pub IsDamagedStore : Tree → Name → Type 0
IsDamagedStore x path = IsDamagedFile x path ⊎ ((path ≡ database) × HoldsNoDb x)

-- ---- the migration

-- the root rests, and stores in format 2 what it stored
pub record HasMigrated {D : Type 0} (disk : DiskModel D) (old new : D) : Type 0 where
  pub rests : IsSettledRoot disk new
  pub brought : IsBrought (disk.reads old) (disk.reads new)

-- From a root at rest: at every moment a crash leaves a tree that recovers to what the root read, as it was or in format 2, and so does
-- what it reads at the end. Where no call failed readers see no change outside the private directory; however it ends, each name outside it
-- reads as before. What is up to date is only read.
pub record Migrates {D : Type 0} (disk : DiskModel D) (old new : D) (result : Result (Unit {0}) Stop) : Type 0 where
  pub images : LeavesOnly disk old new (RecoversInAFormat (disk.reads old))
  pub reads : RecoversInAFormat (disk.reads old) (disk.reads new)
  pub shown : UnlessFailed disk old new (λ t. AgreesOutside is_reserved t (disk.reads old))
  pub outer : AgreesOutside is_reserved (disk.reads new) (disk.reads old)
  pub migrated : OnOk result (HasMigrated disk old new)
  pub clear : is_up_to_date (get (disk.reads old) database) ≡ true → HasRead disk old new (Unit {0})

-- why a root isn't brought to format 2: a fault, no memory, or a damaged file, and then the root was only read
abbrev pub IsMigratingStop : {D : Type 0} → DiskModel D → D → D → Stop → Type 0
IsMigratingStop disk old new e = IsReadStop disk.tells (λ path. HasRead disk old new (IsDamagedFile (disk.reads old) path)) (Rose (disk.faults old) (disk.faults new)) e

-- ---- with the database

-- The root rests, in format 2. The database is that of the tree before, in either format, and of the one after.
pub record HasLoaded {D : Type 0} (disk : DiskModel D) (old new : D) (db : Db) : Type 0 where
  pub rests : IsSettledRoot disk new
  pub brought : IsBrought (disk.reads old) (disk.reads new)
  pub held : HoldsDb (disk.reads old) db
  pub holds : HoldsDatabase Two (disk.reads new) db.installed db.oldest db.newest

-- why the database of a root at rest isn't loaded
abbrev pub IsLoadingStop : {D : Type 0} → DiskModel D → D → D → Stop → Type 0
IsLoadingStop disk old new e = IsReadStop disk.tells (λ path. HasRead disk old new (IsDamagedStore (disk.reads old) path)) (Rose (disk.faults old) (disk.faults new)) e

-- The same as of the migration alone, with the database that was loaded.
pub record Loads {D : Type 0} (disk : DiskModel D) (old new : D) (result : Result Db Stop) : Type 0 where
  pub later : disk.faults old ≤ disk.faults new
  pub images : IsTrue disk.tells → LeavesOnly disk old new (RecoversInAFormat (disk.reads old))
  pub reads : IsTrue disk.tells → RecoversInAFormat (disk.reads old) (disk.reads new)
  pub shown : IsTrue disk.tells → UnlessFailed disk old new (λ t. AgreesOutside is_reserved t (disk.reads old))
  pub outer : IsTrue disk.tells → AgreesOutside is_reserved (disk.reads new) (disk.reads old)
  pub loaded : IsTrue disk.tells → IfOk result (HasLoaded disk old new)
  pub clear : IsTrue disk.tells → is_up_to_date (get (disk.reads old) database) ≡ true → HasRead disk old new (Unit {0})
  -- on every disk, also where it tells nothing
  pub database : IfOk result (λ db. IsDatabase Two db.installed db.oldest db.newest)
  pub stops : IfErr result (IsLoadingStop disk old new)
