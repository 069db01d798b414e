-- What loading a database answers.
use Rattle.std.specs.Prelude.{◌≡◌, ℕ, Bool, IsTrue, nat_le, List, Option, Some, None, length, if◌then◌else◌}
use Rattle.trove_stream.specs.cny-base.declared.limits.TheConstants.{DATABASE_LIMIT}
use Rattle.trove_stream.specs.cny-base.declared.node.Node.{Node}
use Rattle.trove_stream.specs.cny-base.declared.node.Node.TheVariants as node
use Rattle.trove_stream.specs.cny-base.declared.stop.Stop.{Stop}
use Rattle.trove_stream.specs.cny-base.declared.stop.Stop.TheVariants as stop
use Rattle.trove_stream.specs.declared.parts.TroveParts.{TroveParts}
use Rattle.tree_journal.specs.tree-disk.declared.disk.Look.{Look}
use Rattle.tree_journal.specs.tree-disk.declared.disk.Look.TheVariants as look
use Rattle.tree_journal.specs.tree-disk.Tree.{Name, Tree}
use Rattle.local_db.specs.declared.format.Format.{Format}
use Rattle.local_db.specs.Names.{database}
use Rattle.local_db.specs.Stores.{HoldsDatabase}
use Rattle.local_db.specs.declared.db.Db.{Db}
use Rattle.local_db.specs.Database.{IsDatabaseFile}
use Rattle.local_db.specs.declared.loading.Found.{Found}
use Rattle.local_db.specs.declared.loading.Found.TheVariants as found

-- the tree holds this database, in one of the formats
pub record HoldsDb (x : Tree) (db : Db) : Type 0 where
  pub format : Format
  pub holds : HoldsDatabase format x db.installed db.oldest db.newest

-- the tree holds no database
abbrev pub HoldsNoDb : Tree → Type 0
HoldsNoDb x = (f : Format) (list : List TroveParts) (oldest newest : ℕ) → HoldsDatabase f x list oldest newest → ⊥

-- Why nothing is loaded: the disk failed, no memory was left, or the file of the database is damaged, where the tree is told.
abbrev pub IsLoadStop : Bool → Tree → Type 0 → Stop → Type 0
IsLoadStop told x rose stop.Failed = rose
IsLoadStop told x rose stop.Memory = Unit {0}
IsLoadStop told x rose (stop.Damaged path) = (path ≡ database) × (IsTrue told → HoldsNoDb x)
IsLoadStop told x rose (stop.Refused refusal) = ⊥
IsLoadStop told x rose stop.FarFailed = ⊥
IsLoadStop told x rose (stop.FarDamaged path) = ⊥

-- no memory was left, or the bytes are those of no database
abbrev pub IsTextStop : Name → List ℕ → Stop → Type 0
IsTextStop file bytes stop.Memory = Unit {0}
IsTextStop file bytes (stop.Damaged path) = (path ≡ file) × ((db : Db) → IsDatabaseFile db bytes → ⊥)
IsTextStop file bytes stop.Failed = ⊥
IsTextStop file bytes (stop.Refused refusal) = ⊥
IsTextStop file bytes stop.FarFailed = ⊥
IsTextStop file bytes (stop.FarDamaged path) = ⊥

-- a file of no more bytes than a database has at most
abbrev pub file_found : List ℕ → Found
file_found bytes = if nat_le (length bytes) DATABASE_LIMIT then found.File bytes else found.Other

-- what stands at the name of the database
abbrev pub found_of : Option Node → Found
found_of None = found.Nothing
found_of (Some (node.File mode bytes)) = file_found bytes
found_of (Some (node.Dir mode)) = found.Other
found_of (Some (node.Link target)) = found.Other

-- the same, where no file was seen
abbrev pub no_file_found : Look → Found
no_file_found look.Nothing = found.Nothing
no_file_found (look.Dir mode) = found.Other
no_file_found (look.File mode size) = found.Other
no_file_found (look.Link target) = found.Other
