-- The writes that bring a root from format 1 to format 2.
use Rattle.std.specs.Prelude.{◌≡◌, ◌≢◌, ◌⊎◌, ℕ, zero, suc, ◌-◌, Bool, true, false, if◌then◌else◌, List, [], ◌∷◌, Option, Some, None, All, Contains}
use Rattle.std.specs.FinMap.{get}
use Rattle.job_targets.specs.cny-base.Below.{begins_with}
use Rattle.job_targets.specs.cny-base.declared.node.Node.{Node}
use Rattle.job_targets.specs.cny-base.declared.node.Node.TheVariants as node
use Rattle.job_targets.specs.cny-base.declared.stop.Stop.{Stop}
use Rattle.job_targets.specs.cny-base.declared.stop.Stop.TheVariants as stop
use Rattle.job_targets.specs.journal-log.declared.put.Put.{Put}
use Rattle.job_targets.specs.journal-log.declared.put.Want.{Want}
use Rattle.job_targets.specs.journal-log.declared.put.Want.TheVariants as want
use Rattle.job_targets.specs.trove-stream.declared.parts.TroveParts.{TroveParts}
use Rattle.job_targets.specs.tree-disk.Tree.{Name, Tree, same_name}
use Rattle.local_db.specs.declared.format.Format.TheVariants.{One, Two}
use Rattle.local_db.specs.Formats.{database_bytes, database_magic}
use Rattle.local_db.specs.Names.{database, record_file}
use Rattle.local_db.specs.Record as state
use Rattle.local_db.specs.Record.{IsRecord}
use Rattle.local_db.specs.Steps.{IsUnion, record_put}
use Rattle.local_db.specs.Stores.{HoldsDatabase, IsDatabase}
use Rattle.rollback_stack.specs.JobReading.{HoldsRecord, IsDamagedRecord, IsReadStop}
use Rattle.local_db.specs.declared.db.Db.{Db}
use Rattle.rollback_stack.specs.Numbers.{job_count}
use Rattle.rollback_stack.specs.Wanting.{Wants, want_at}

-- there is no database, or its file begins as one of format 2 does
abbrev pub is_up_to_date : Option Node → Bool
is_up_to_date None = true
is_up_to_date (Some (node.File mode bytes)) = begins_with (database_magic Two) bytes
is_up_to_date (Some (node.Dir mode)) = false
is_up_to_date (Some (node.Link target)) = false

-- the records of so many jobs, from this number down, each once more in format 2
abbrev pub AreRewritten : Tree → ℕ → ℕ → List TroveParts → List Put → Type 0
AreRewritten x zero number after [] = Unit {0}
AreRewritten x (suc count) number after (p ∷ puts) = (before : List TroveParts) × (es : List state.Entry) × (mode : ℕ) × (bytes : List ℕ)
    × HoldsRecord One x number after before es × IsRecord Two number before after es bytes × (p ≡ record_put number mode bytes)
    × AreRewritten x count (number - 1) before puts
AreRewritten x _ number after _ = ⊥

-- The writes are the database in format 2 and its records in format 2.
pub record AreMigration (x : Tree) (puts : List Put) : Type 0 where
  pub list : List TroveParts
  pub oldest : ℕ
  pub newest : ℕ
  pub holds : HoldsDatabase One x list oldest newest
  pub records : List Put
  pub rewritten : AreRewritten x (job_count oldest newest) newest list records
  pub mode : ℕ
  pub writes : IsUnion puts (record { path = database; want = want.File mode (database_bytes Two list oldest newest) } ∷ []) records

-- ---- what is answered

-- The database is to be one of format 1, and is none.
pub record IsNoDatabase (x : Tree) (path : Name) : Type 0 where
  pub path_is : path ≡ database
  pub old : is_up_to_date (get x database) ≡ false
  pub none : (list : List TroveParts) (oldest newest : ℕ) → HoldsDatabase One x list oldest newest → ⊥

-- what is answered: no writes exactly where the database is up to date
abbrev pub IsMigrated : Tree → Option (List Put) → Type 0
IsMigrated x None = is_up_to_date (get x database) ≡ true
IsMigrated x (Some puts) = (is_up_to_date (get x database) ≡ false) × AreMigration x puts

-- the file of the database or of a record is damaged
abbrev pub IsDamagedFile : Tree → Name → Type 0
IsDamagedFile x path = IsNoDatabase x path
    ⊎ ((db : Db) × HoldsDatabase One x db.installed db.oldest db.newest × IsDamagedRecord One x (job_count db.oldest db.newest) db.newest db.installed path)

-- Why there are no writes.
abbrev pub IsMigratedStop : Bool → Tree → Type 0 → Stop → Type 0
IsMigratedStop told x rose e = IsReadStop told (IsDamagedFile x) rose e

-- ---- as they are made in a map

-- a file of these bytes, of mode 0644, is to stand there
abbrev pub HasFile : Name → List ℕ → Wants → Wants → Type 0
HasFile path bytes old new = (p : Name) → want_at new p ≡ (if same_name path p then Some (want.File 420 bytes) else want_at old p)

-- the record of this number was read, and is to stand in format 2
pub record HasRewritten (x : Tree) (number : ℕ) (after before : List TroveParts) (old new : Wants) : Type 0 where
  pub es : List state.Entry
  pub bytes : List ℕ
  pub holds : HoldsRecord One x number after before es
  pub text : IsRecord Two number before after es bytes
  pub wanted : HasFile (record_file number) bytes old new

-- just these writes came to those of the map, and none is that of the database
pub record AreAdded (records : List Put) (old new : Wants) : Type 0 where
  pub each : (p : Name) (want_ : Want) → want_at new p ≡ Some want_ → (want_at old p ≡ Some want_) ⊎ Contains records (record { path = p; want = want_ })
  pub all : All (λ (r : Put). want_at new r.path ≡ Some r.want) records
  pub kept : want_at new database ≡ want_at old database

-- the records of all jobs came to them
pub record AreAllRewritten (x : Tree) (db : Db) (old new : Wants) : Type 0 where
  pub records : List Put
  pub rewritten : AreRewritten x (job_count db.oldest db.newest) db.newest db.installed records
  pub added : AreAdded records old new

-- the writes of the database, and of all records, in format 2
pub record AreWritesOf (x : Tree) (db : Db) (puts : List Put) : Type 0 where
  pub records : List Put
  pub rewritten : AreRewritten x (job_count db.oldest db.newest) db.newest db.installed records
  pub writes : IsUnion puts (record { path = database; want = want.File 420 (database_bytes Two db.installed db.oldest db.newest) } ∷ []) records

-- why there are none
abbrev pub IsRecordsStop : Bool → Tree → Db → Type 0 → Stop → Type 0
IsRecordsStop told x db rose e = IsReadStop told (IsDamagedRecord One x (job_count db.oldest db.newest) db.newest db.installed) rose e

-- ---- the database

-- the database of format 1 that is to be written once more; none where that isn't so
abbrev pub IsOldDatabase : Tree → Option Db → Type 0
IsOldDatabase x None = is_up_to_date (get x database) ≡ true
IsOldDatabase x (Some db) = (is_up_to_date (get x database) ≡ false) × HoldsDatabase One x db.installed db.oldest db.newest

-- the bytes are this database in format 1
pub record IsOldFile (db : Db) (bytes : List ℕ) : Type 0 where
  pub database : IsDatabase One db.installed db.oldest db.newest
  pub text : bytes ≡ database_bytes One db.installed db.oldest db.newest

-- the database of format 1 that they are; none where they begin as those of format 2
abbrev pub IsOldIn : List ℕ → Option Db → Type 0
IsOldIn bytes None = begins_with (database_magic Two) bytes ≡ true
IsOldIn bytes (Some db) = (begins_with (database_magic Two) bytes ≡ false) × IsOldFile db bytes

-- no memory was left, or the bytes of the file are to be such a database, and are none
abbrev pub IsFileStop : Name → List ℕ → Stop → Type 0
IsFileStop file bytes stop.Memory = Unit {0}
IsFileStop file bytes (stop.Damaged path) = (path ≡ file) × (begins_with (database_magic Two) bytes ≡ false) × ((db : Db) → IsOldFile db bytes → ⊥)
IsFileStop file bytes stop.Failed = ⊥
IsFileStop file bytes (stop.Refused why) = ⊥
IsFileStop file bytes stop.FarFailed = ⊥
IsFileStop file bytes (stop.FarDamaged path) = ⊥
