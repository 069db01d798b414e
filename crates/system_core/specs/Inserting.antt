-- The write of a database.
use Rattle.std.specs.Prelude.{ℕ, IsTrue, List, not}
use Rattle.std.specs.List.{filter, list_all}
use Rattle.rollback_stack.specs.journal-log.declared.put.Put.{Put}
use Rattle.rollback_stack.specs.journal-log.declared.put.Want.TheVariants as want
use Rattle.local_db.specs.declared.db.Db.{Db}
use Rattle.rollback_stack.specs.tree-disk.Tree.{Name, is_byte, same_name}
use Rattle.local_db.specs.declared.format.Format.TheVariants.{Two}
use Rattle.local_db.specs.Formats.{Fits, database_bytes}
use Rattle.local_db.specs.Names.{database}
pub use Rattle.update_job.specs.cny-base.Modes.{file_mode}

-- the bytes of the database, in format 2
abbrev pub bytes_of_db : Db → List ℕ
bytes_of_db db = database_bytes Two db.installed db.oldest db.newest

-- the database's file
abbrev pub put_of_db : Db → Put
put_of_db db = record { path = database; want = want.File file_mode (bytes_of_db db) }

-- its bytes are within the limit
abbrev pub HasDatabaseRoom : Db → Type 0
HasDatabaseRoom db = Fits Two db.installed

-- each number of its text is a byte
abbrev pub HasBytes : Db → Type 0
HasBytes db = IsTrue (list_all is_byte (bytes_of_db db))

-- the writes but the one at this path
abbrev pub without : Name → List Put → List Put
without path puts = filter (λ (p : Put). not (same_name path p.path)) puts
