-- How the root is opened: what a crash left is recovered, a root of format 1 is brought to format 2, and its database is read.
use Rattle.std.specs.Prelude.{◌≡◌, ◌⊎◌, ◌≤◌, false, IsTrue, Result, Ok, Err, IfOk, IfErr}
use Rattle.std.specs.FinMap.{get}
use Rattle.system_core.specs.cny-base.Reserved.{private_directory, is_reserved}
use Rattle.system_core.specs.cny-base.declared.refusal.Refusal.{Refusal}
use Rattle.system_core.specs.cny-base.declared.stop.Stop.{Stop}
use Rattle.system_core.specs.cny-base.declared.stop.Stop.TheVariants as stop
use Rattle.system_core.specs.tree-disk.Tree.{Name, Tree, AgreesOutside}
use Rattle.system_core.specs.tree-disk.Disk.{DiskModel, HasRead}
use Rattle.system_core.specs.tree-disk.Confined.{Among, Confined, LeavesOnly}
use Rattle.system_core.specs.tree-disk.Steps.{no_name}
use Rattle.system_core.specs.tree-disk.Unfailed.{UnlessFailed}
use Rattle.system_core.specs.tree-journal.Recovery.{is_committed, RecoversTo}
use Rattle.system_core.specs.tree-journal.Visible.{ShowsNode}
use Rattle.local_db.specs.declared.db.Db.{Db}
use Rattle.local_db.specs.Loading.{HoldsDb}
use Rattle.system_core.specs.rollback-stack.Migrated.{is_up_to_date}
use Rattle.local_db.specs.declared.format.Format.TheVariants.{Two}
use Rattle.local_db.specs.Names.{database}
use Rattle.local_db.specs.Stores.{HoldsDatabase, IsDatabase}
use Rattle.system_core.specs.FixedDirs.{fixed_dirs}
use Rattle.system_core.specs.Migrating.{IsBrought, RecoversInAFormat}
use Rattle.cny_laws.specs.Opening.{OpeningStops}
use Rattle.system_core.specs.tree-journal.Recovered.{RecoversToNone}
use Rattle.cny_laws.specs.State.{RootState, tree_of}
use Rattle.cny_laws.specs.Store.{Recovers, IsEntryOr, IsSettled}
use Rattle.cny_laws.specs.Stores.{root_store}

-- ---- trees

-- the image recovers to a tree that is equal to this one outside the private directory
pub record RecoversOutside (image tree : Tree) : Type 0 where
  pub recovered : Tree
  pub recovers : RecoversTo private_directory image recovered
  pub outer : AgreesOutside is_reserved tree recovered

-- A root whose database isn't up to date: no name outside the private directory changed.
pub record IsOfOldFormat (before after : Tree) : Type 0 where
  pub old : is_up_to_date (get before database) ≡ false
  pub outer : AgreesOutside is_reserved after before

-- The root recovers to each system that it recovered to before; and to each tree, as it is or brought from format 1 to format 2, which
-- changes no name outside the private directory. Where its commit flag wasn't set and its database was up to date, it is the same.
pub record IsRootKept (before after : Tree) : Type 0 where
  pub still : (s : RootState) → Recovers root_store before s → Recovers root_store after s
  pub stored : (tree : Tree) → RecoversTo private_directory before tree → RecoversInAFormat tree after
  pub outer : (tree : Tree) → RecoversTo private_directory before tree → RecoversOutside after tree
  pub same : is_committed private_directory before ≡ false → (after ≡ before) ⊎ IsOfOldFormat before after

-- Readers see at each name outside the private directory the node of the one tree, that of the other, or nothing where just one of
-- the two is a directory.
abbrev pub ShowsBetween : Tree → Tree → Tree → Type 0
ShowsBetween before after shown = (q : Name) → is_reserved q ≡ false → ShowsNode (get before q) (get after q) (get shown q)

-- ---- the opening

-- The root recovers to a tree, and each tree to which it recovers holds this database, in one of the formats.
pub record RecoversToDatabase (image : Tree) (db : Db) : Type 0 where
  pub tree : Tree
  pub recovers : RecoversTo private_directory image tree
  pub held : (other : Tree) → RecoversTo private_directory image other → HoldsDb other db

-- A root that was opened: it rests, a crash leaves just what it reads, it stores each system that it recovered to, and each tree in
-- format 2, and holds this database, which is the one that it recovered to.
pub record IsRootOpen {D : Type 0} (disk : DiskModel D) (old new : D) (db : Db) : Type 0 where
  pub settled : IsSettled disk private_directory new
  pub fixed : fixed_dirs (disk.reads old) ≡ Ok tt
  pub reached : RecoversOutside (disk.reads old) (disk.reads new)
  pub stores : (s : RootState) → Recovers root_store (disk.reads old) s → root_store.IsStored (disk.reads new) s
  pub holds : HoldsDatabase Two (disk.reads new) db.installed db.oldest db.newest
  pub database : RecoversToDatabase (disk.reads old) db
  pub brought : (tree : Tree) → RecoversTo private_directory (disk.reads old) tree → IsBrought tree (disk.reads new)

-- By a system that the root recovers to, however the opening ends: until then a crash leaves an image at entry or a tree that
-- recovers to the system, and readers see what stood at entry or the system; as it reads, the root recovers to the system; where
-- its commit flag wasn't set, no name outside the private directory is another than at entry.
pub record OpensFrom {D : Type 0} (disk : DiskModel D) (s : RootState) (old new : D) : Type 0 where
  pub images : LeavesOnly disk old new (IsEntryOr root_store disk old s)
  pub seen : UnlessFailed disk old new (ShowsBetween (disk.reads old) (tree_of s))
  pub reads : Recovers root_store (disk.reads new) s
  pub outside : is_committed private_directory (disk.reads old) ≡ false → AgreesOutside is_reserved (disk.reads new) (disk.reads old)

-- neither a fault of the disk nor want of memory ended it
abbrev pub IsDecided : {V : Type 0} → Result V Stop → Type 0
IsDecided (Ok value) = Unit {0}
IsDecided (Err (stop.Refused r)) = Unit {0}
IsDecided (Err (stop.Damaged path)) = Unit {0}
IsDecided _ = ⊥

-- The root is opened.
pub record OpensSystem {D : Type 0} (disk : DiskModel D) (old new : D) (result : Result Db Stop) : Type 0 where
  pub later : disk.faults old ≤ disk.faults new
  pub from : IsTrue disk.tells → (s : RootState) → Recovers root_store (disk.reads old) s → OpensFrom disk s old new
  pub opened : IsTrue disk.tells → IfOk result (IsRootOpen disk old new)
  pub kept : IsTrue disk.tells → IsDecided result → IsRootKept (disk.reads old) (disk.reads new)
  -- where a fixed directory isn't one, it is only read; where it recovers to no tree, it is left as it stands
  pub missing : IsTrue disk.tells → (r : Refusal) → fixed_dirs (disk.reads old) ≡ Err r → HasRead disk old new (Unit {0})
  pub untouched : IsTrue disk.tells → RecoversToNone private_directory (disk.reads old) → Confined disk (Among no_name) old new
  -- whatever the disk tells
  pub rules : IfOk result (λ db. IsDatabase Two db.installed db.oldest db.newest)
  pub stops : IfErr result (OpeningStops root_store disk fixed_dirs old new)
