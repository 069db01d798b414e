-- What a database file says.
use Rattle.std.specs.Prelude.{◌≡◌, List, ℕ}
use Rattle.local_db.specs.declared.format.Format.{Format}
use Rattle.local_db.specs.Formats.{database_bytes}
use Rattle.local_db.specs.Stores.{IsDatabase}
use Rattle.local_db.specs.declared.db.Db.{Db}

-- the bytes are those of this database, in one of the formats
pub record IsDatabaseFile (db : Db) (bytes : List ℕ) : Type 0 where
  pub format : Format
  pub database : IsDatabase format db.installed db.oldest db.newest
  pub text : bytes ≡ database_bytes format db.installed db.oldest db.newest

-- What every loaded database is, that of an empty file's place too: its list and numbers are those that a file of one of the
-- formats can tell.
pub record IsDb (db : Db) : Type 0 where
  pub format : Format
  pub database : IsDatabase format db.installed db.oldest db.newest
