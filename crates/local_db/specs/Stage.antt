-- Contents that are staged in a root's journal before a job.
use Rattle.std.specs.Prelude.{◌≡◌, true, false}
use Rattle.tree_journal.specs.tree-disk.Tree.{Name}
use Rattle.tree_journal.specs.tree-disk.Disk.{DiskModel}
use Rattle.local_db.specs.declared.db.Db.{Db}
use Rattle.local_db.specs.declared.format.Format.{Format}
use Rattle.local_db.specs.Stores.{HoldsDatabase, StoresIn}
use Rattle.local_db.specs.SystemState.{SystemState}
use Rattle.local_db.specs.Names.{counts}

-- None of the names that count for the system changed since the last successful sync.
abbrev pub AreSyncedFor : {D : Type 0} → DiskModel D → D → SystemState → Type 0
AreSyncedFor disk d s = (q : Name) → counts s q ≡ true → disk.unsynced d q ≡ false

-- What the root stores stays: each system, its database, and that no name which counts for a system is unsynced.
pub record KeepsSystem {D : Type 0} (disk : DiskModel D) (old new : D) : Type 0 where
  pub stores : (f : Format) (s : SystemState) → StoresIn f (disk.reads old) s → StoresIn f (disk.reads new) s
  pub holds : (f : Format) (db : Db) → HoldsDatabase f (disk.reads old) db.installed db.oldest db.newest → HoldsDatabase f (disk.reads new) db.installed db.oldest db.newest
  pub settled : (s : SystemState) → AreSyncedFor disk old s → AreSyncedFor disk new s
