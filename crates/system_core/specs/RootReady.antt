-- A root on which a command begins.
use Rattle.std.specs.Prelude.{◌≡◌, false, IsTrue}
use Rattle.rollback_stack.specs.cny-base.Path.{parent}
use Rattle.rollback_stack.specs.cny-base.Reserved.{private_directory}
use Rattle.rollback_stack.specs.tree-disk.Rows.{is_dir_at}
use Rattle.rollback_stack.specs.tree-disk.Disk.{DiskModel}
use Rattle.rollback_stack.specs.tree-disk.Confined.{IsSynced}
use Rattle.tree_journal.specs.Recovery.{is_committed}
use Rattle.local_db.specs.declared.format.Format.TheVariants.{Two}
use Rattle.local_db.specs.Stores.{HoldsDatabase}
use Rattle.local_db.specs.declared.db.Db.{Db}

-- A root on which a command begins: it is at rest, its fixed directories stand, and it holds this database in format 2.
pub record MayBeginJob {D : Type 0} (disk : DiskModel D) (db : Db) (d : D) : Type 0 where
  pub flag_clear : is_committed private_directory (disk.reads d) ≡ false
  pub synced : IsSynced disk d
  pub pinned : IsTrue (is_dir_at (disk.reads d) (parent private_directory))
  pub holds : HoldsDatabase Two (disk.reads d) db.installed db.oldest db.newest
