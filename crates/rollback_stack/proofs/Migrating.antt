-- The database and the records of a root of format 1, once more in format 2.
use Rattle.std.proofs.Common.{◌≡◌, inl, inr, ℕ, ◌+◌, ◌≤◌, ◌==◌, ◌&&◌, Bool, true, false, cond, IsTrue, List, [], ◌∷◌, ◌++◌, length, take, Option, Some, None, refl, sym, ◌∙◌, ap, subst, true≢false}
use Rattle.std.specs.Prelude.{nat_le}
use Rattle.std.proofs.lemmas.Bool.{le-leb}
use Rattle.std.specs.FinMap.{get}
use Rattle.job_targets.specs.cny-base.Below.{begins_with}
use Rattle.job_targets.proofs.cny-base.Below.{begins}
use Rattle.job_targets.specs.cny-base.declared.node.Node.{Node}
use Rattle.job_targets.specs.cny-base.declared.node.Node.TheVariants as node
use Rattle.job_targets.specs.cny-base.declared.stop.Stop.{Stop}
use Rattle.job_targets.specs.cny-base.declared.stop.Stop.TheVariants as stop
use Rattle.job_targets.specs.content-store.Store.{file_bytes}
use Rattle.rollback_stack.specs.JobReading.{IsDamagedRecord, IsReadStop}
use Rattle.job_targets.specs.journal-log.declared.put.Put.{Put}
use Rattle.local_db.specs.Database.{IsDatabaseFile}
use Rattle.local_db.specs.declared.db.Db.{Db}
use Rattle.local_db.specs.Formats.{database_bytes, database_magic, trove_text}
use Rattle.local_db.specs.Loading.{IsTextStop}
use Rattle.local_db.specs.Names.{database}
use Rattle.local_db.specs.Stores.{HoldsDatabase, IsDatabase, absent, written}
use Rattle.local_db.specs.declared.format.Format.{Format}
use Rattle.local_db.specs.declared.format.Format.TheVariants.{One, Two}
use Rattle.job_targets.specs.trove-parts.Items.{items_bytes}
use Rattle.job_targets.specs.cny-stream.Item.{item_bytes}
use Rattle.std.specs.Int.{w32, to_be_bytes}
use Rattle.job_targets.specs.tree-disk.Tree.{Name, Tree}
use Rattle.job_targets.specs.trove-stream.declared.parts.TroveParts.{TroveParts}
use Rattle.rollback_stack.specs.Migrated.{AreMigration, AreWritesOf, IsDamagedFile, IsFileStop, IsMigratedStop, IsNoDatabase, IsOldDatabase, IsOldFile, IsOldIn, IsRecordsStop, is_up_to_date}
use Rattle.rollback_stack.specs.Seen.{seen_as}
use Rattle.rollback_stack.specs.declared.migration.Seen.TheVariants as seen
use Rattle.job_targets.specs.cny-base.declared.limits.TheConstants.{FORMAT_1_DATABASE_LIMIT}
use Rattle.local_db.proofs.Spellings.{same_room}
use Rattle.rollback_stack.specs.Numbers.{job_count}
use Rattle.rollback_stack.proofs.Later.{read_stop_then}
use Rattle.change_rel.proofs.cny-base.OptionValues.{same_path as some_bytes}

-- ---- the file of the database

pub of_file : (o : Option Node) (bytes : List ℕ) → file_bytes o ≡ Some bytes → is_up_to_date o ≡ begins_with (database_magic Two) bytes
of_file None bytes e = absurd (cc e)
of_file (Some (node.Dir mode)) bytes e = absurd (cc e)
of_file (Some (node.Link target)) bytes e = absurd (cc e)
of_file (Some (node.File mode content)) bytes e = ap (begins_with (database_magic Two)) (some_bytes content bytes e)

-- a file of other bytes is none
pub file_is_none : (x : Tree) (path : Name) (bytes : List ℕ) → path ≡ database → file_bytes (get x database) ≡ Some bytes → begins_with (database_magic Two) bytes ≡ false → ((db : Db) → IsOldFile db bytes → ⊥) → IsNoDatabase x path
file_is_none x path bytes at file other never = record { path_is = at; old = of_file (get x database) bytes file ∙ other; none = none }
  where
    none : (list : List TroveParts) (oldest newest : ℕ) → HoldsDatabase One x list oldest newest → ⊥
    none list oldest newest (absent nothing empty low high) = absurd (cc (file, ap file_bytes nothing))
    none list oldest newest (written of file') = never (record { installed = list; oldest = oldest; newest = newest })
        (record { database = of; text = some_bytes bytes (database_bytes One list oldest newest) (sym file ∙ file') })

begins_two : (list : List TroveParts) (oldest newest : ℕ) → begins_with (database_magic Two) (database_bytes Two list oldest newest) ≡ true
begins_two list oldest newest = begins (database_magic Two) (items_bytes (trove_text Two) 0x50 list ++ (item_bytes 0x51 (to_be_bytes w32 oldest ++ to_be_bytes w32 newest) ++ item_bytes 0x5F []))

-- bytes that don't begin as those of format 2 are of format 1
pub in_one : (db : Db) (bytes : List ℕ) → begins_with (database_magic Two) bytes ≡ false → IsDatabaseFile db bytes → IsOldFile db bytes
in_one db bytes other is = by is.format is.database is.text
  where
    by : (f : Format) → IsDatabase f db.installed db.oldest db.newest → bytes ≡ database_bytes f db.installed db.oldest db.newest → IsOldFile db bytes
    by One of text = record { database = of; text = text }
    by Two of text = absurd (cc (other, ap (begins_with (database_magic Two)) text ∙ begins_two db.installed db.oldest db.newest))

-- why the bytes of the file are no database
pub file_stop : (told : Bool) (x : Tree) (rose : Type 0) (file : Name) (bytes : List ℕ) (e : Stop) → file ≡ database → (IsTrue told → file_bytes (get x database) ≡ Some bytes)
    → IsFileStop file bytes e → IsReadStop told (IsNoDatabase x) rose e
file_stop told x rose file bytes stop.Failed at there is = absurd is
file_stop told x rose file bytes stop.Memory at there is = tt
file_stop told x rose file bytes (stop.Damaged path) at there is = λ tells. file_is_none x path bytes (is.0 ∙ at) (there tells) is.1 is.2
file_stop told x rose file bytes (stop.Refused why) at there is = is
file_stop told x rose file bytes stop.FarFailed at there is = is
file_stop told x rose file bytes (stop.FarDamaged path) at there is = is

as_file : (db : Db) (bytes : List ℕ) → IsOldFile db bytes → IsDatabaseFile db bytes
as_file db bytes is = record { format = One; database = is.database; text = is.text }

-- bytes of no database that don't begin as those of format 2
pub no_old_file : (path : Name) (bytes : List ℕ) → begins_with (database_magic Two) bytes ≡ false → (e : Stop) → IsTextStop path bytes e → IsFileStop path bytes e
no_old_file path bytes other stop.Failed is = is
no_old_file path bytes other stop.Memory is = is
no_old_file path bytes other (stop.Damaged p) is = (is.0, other, λ db old. is.1 db (as_file db bytes old))
no_old_file path bytes other (stop.Refused why) is = is
no_old_file path bytes other stop.FarFailed is = is
no_old_file path bytes other (stop.FarDamaged p) is = is

-- ---- all writes

pub migration_is : (x : Tree) (db : Db) (puts : List Put) → HoldsDatabase One x db.installed db.oldest db.newest → AreWritesOf x db puts → AreMigration x puts
migration_is x db puts holds are = record {
  list = db.installed;
  oldest = db.oldest;
  newest = db.newest;
  holds = holds;
  records = are.records;
  rewritten = are.rewritten;
  mode = 420;
  writes = are.writes;
}

pub no_database_stop : (told : Bool) (x : Tree) (rose : Type 0) (e : Stop) → IsReadStop told (IsNoDatabase x) rose e → IsMigratedStop told x rose e
no_database_stop told x rose e is = read_stop_then told (IsNoDatabase x) (IsDamagedFile x) rose rose e (λ tells path none. inl none) (λ r. r) is

pub records_stop : (told : Bool) (x y : Tree) (db : Db) (rose later : Type 0) (e : Stop) → (IsTrue told → HoldsDatabase One x db.installed db.oldest db.newest) → (rose → later) → (IsTrue told → y ≡ x)
    → IsRecordsStop told y db rose e → IsMigratedStop told x later e
records_stop told x y db rose later e holds rises same is =
    let count = job_count db.oldest db.newest in
    read_stop_then told (IsDamagedRecord One y count db.newest db.installed) (IsDamagedFile x) rose later e
    (λ tells path damaged. inr (db, holds tells, subst (λ (t : Tree). IsDamagedRecord One t count db.newest db.installed path) (same tells) damaged)) rises is

-- ---- what is seen of the file of the database

module _ (bytes : List ℕ) where
  read_file : (content : List ℕ) (two few : Bool) → begins_with (database_magic Two) content ≡ two
      → seen.File bytes ≡ cond two seen.Current (cond few (seen.File content) seen.Other) → content ≡ bytes
  read_file content true few begins is = absurd (cc is)
  read_file content false true begins is = cc is
  read_file content false false begins is = absurd (cc is)

  pub seen_file : (o : Option Node) → seen.File bytes ≡ seen_as o → file_bytes o ≡ Some bytes
  seen_file None is = absurd (cc is)
  seen_file (Some (node.Dir mode)) is = absurd (cc is)
  seen_file (Some (node.Link target)) is = absurd (cc is)
  seen_file (Some (node.File mode content)) is =
      ap (λ (l : List ℕ). Some l) (read_file content (begins_with (database_magic Two) content) (nat_le (length content) FORMAT_1_DATABASE_LIMIT) refl is)

current_file : (content : List ℕ) (two few : Bool) → seen.Current ≡ cond two seen.Current (cond few (seen.File content) seen.Other) → two ≡ true
current_file content true few is = refl
current_file content false true is = absurd (cc is)
current_file content false false is = absurd (cc is)

pub seen_current : (o : Option Node) → seen.Current ≡ seen_as o → is_up_to_date o ≡ true
seen_current None is = refl
seen_current (Some (node.Dir mode)) is = absurd (cc is)
seen_current (Some (node.Link target)) is = absurd (cc is)
seen_current (Some (node.File mode content)) is =
    current_file content (begins_with (database_magic Two) content) (nat_le (length content) FORMAT_1_DATABASE_LIMIT) is

other_file : (content : List ℕ) (two few : Bool) → seen.Other ≡ cond two seen.Current (cond few (seen.File content) seen.Other) → (two ≡ false) × (few ≡ false)
other_file content true few is = absurd (cc is)
other_file content false true is = absurd (cc is)
other_file content false false is = (refl, refl)

-- where something else stands, it isn't up to date, and no file of so few bytes
other_there : (o : Option Node) → seen.Other ≡ seen_as o → (is_up_to_date o ≡ false) × ((bytes : List ℕ) → file_bytes o ≡ Some bytes → length bytes ≤ FORMAT_1_DATABASE_LIMIT → ⊥)
other_there None is = absurd (cc is)
other_there (Some (node.Dir mode)) is = (refl, λ bytes file few. absurd (cc file))
other_there (Some (node.Link target)) is = (refl, λ bytes file few. absurd (cc file))
other_there (Some (node.File mode content)) is =
    let no = other_file content (begins_with (database_magic Two) content) (nat_le (length content) FORMAT_1_DATABASE_LIMIT) is in
    (no.0, λ bytes file few. true≢false (sym (le-leb (length content) FORMAT_1_DATABASE_LIMIT (subst (λ (l : List ℕ). length l ≤ FORMAT_1_DATABASE_LIMIT) (sym (some_bytes content bytes file)) few)) ∙ no.1))

pub seen_other : (x : Tree) (path : Name) → path ≡ database → seen.Other ≡ seen_as (get x database) → IsNoDatabase x path
seen_other x path at is = record { path_is = at; old = other.0; none = none }
  where
    other : (is_up_to_date (get x database) ≡ false) × ((bytes : List ℕ) → file_bytes (get x database) ≡ Some bytes → length bytes ≤ FORMAT_1_DATABASE_LIMIT → ⊥)
    other = other_there (get x database) is

    none : (list : List TroveParts) (oldest newest : ℕ) → HoldsDatabase One x list oldest newest → ⊥
    none list oldest newest (absent gone empty low high) = absurd (cc (other.0, ap is_up_to_date gone))
    none list oldest newest (written of file) =
        other.1 (database_bytes One list oldest newest) file (subst (λ (n : ℕ). n ≤ FORMAT_1_DATABASE_LIMIT) (sym (same_room One list oldest newest)) of.fits.short)

-- the database that the bytes of the file are
pub old_value : (x : Tree) (bytes : List ℕ) → file_bytes (get x database) ≡ Some bytes → (found : Option Db) → IsOldIn bytes found → IsOldDatabase x found
old_value x bytes file None begins = of_file (get x database) bytes file ∙ begins
old_value x bytes file (Some db) is =
    (of_file (get x database) bytes file ∙ is.0, written is.1.database (file ∙ ap (λ (l : List ℕ). Some l) is.1.text))

-- ---- a file begins as its beginning does

pub front_begins : (front bytes : List ℕ) → begins_with front (take (length front) bytes) ≡ begins_with front bytes
front_begins [] bytes = refl
front_begins (a ∷ front) [] = refl
front_begins (a ∷ front) (b ∷ bytes) = ap (λ (t : Bool). a == b && t) (front_begins front bytes)
