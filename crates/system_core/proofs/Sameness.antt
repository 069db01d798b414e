-- Trees that differ at the journal's own names alone: what is said of their database and records holds of both.
use Rattle.std.proofs.Common.{◌≡◌, inl, inr, ⊎_elim, ℕ, zero, suc, ◌-◌, false, not, List, [], ◌∷◌, length, Option, Some, None, sym, ◌∙◌, ap}
use Rattle.std.proofs.lemmas.Bool.{cases_Bool}
use Rattle.std.specs.FinMap.{get}
use Rattle.rollback_stack.specs.cny-base.Reserved.{private_directory, is_reserved}
use Rattle.rollback_stack.specs.journal-log.declared.put.Put.{Put}
use Rattle.rollback_stack.specs.journal-log.Own.{is_own, StoresSame}
use Rattle.rollback_stack.specs.journal-log.Targets.{is_target, with_targets}
use Rattle.rollback_stack.specs.trove-stream.declared.parts.TroveParts.{TroveParts}
use Rattle.rollback_stack.proofs.tree-disk.Laws.{same_itself}
use Rattle.rollback_stack.specs.tree-disk.Tree.{Name, Tree, same_name}
use Rattle.tree_journal.specs.Recovery.{RecoversTo, at_rest, by_log}
use Rattle.local_db.specs.Loading.{HoldsDb}
use Rattle.local_db.specs.declared.db.Db.{Db}
use Rattle.local_db.specs.Formats.{database_bytes}
use Rattle.local_db.specs.Names.{database, is_job_name, is_job_name_of, record_file}
use Rattle.local_db.specs.Record as state
use Rattle.local_db.specs.Stores.{HoldsDatabase, absent, written}
use Rattle.local_db.specs.SystemState.{StackItem, SystemState}
use Rattle.local_db.specs.declared.format.Format.{Format}
use Rattle.local_db.specs.declared.format.Format.TheVariants.{One}
use Rattle.local_db.proofs.Frame.{file_stays}
use Rattle.local_db.proofs.Places.{own_doesnt_count, own_reserved, record_is_job}
use Rattle.local_db.proofs.Writes.{with_targets_target}
use Rattle.rollback_stack.specs.JobReading.{HoldsNoRecord, HoldsRecord, HoldsRecords, IsDamagedRecord}
use Rattle.rollback_stack.specs.Migrated.{AreMigration, AreRewritten, IsDamagedFile, IsMigrated, is_up_to_date}
use Rattle.rollback_stack.specs.Numbers.{job_count}
use Rattle.system_core.specs.Migrating.{IsBrought, IsDamagedStore, RecoversInAFormat, with_migration}
use Rattle.tree_journal.proofs.WriteSets.{target_at, with_targets_outside}
use Rattle.local_db.proofs.cny-base.Bools.{or_left, or_right}
use Rattle.local_db.proofs.Together.{flip_same as same_back}

-- ---- the database and the records aren't the journal's own

abbrev no_tree : Tree → StackItem → SystemState
no_tree x o = record { tree = x; installed = []; stack = o ∷ [] }

abbrev job_at : Tree → ℕ → StackItem
job_at x n = record { number = n; before = x; after = x; list = []; paths = [] }

pub database_not_own : Tree → is_own private_directory database ≡ false
database_not_own x = own_doesnt_count (no_tree x (job_at x 0)) database
    (or_right (not (is_reserved database)) _ (or_left _ (is_job_name_of (job_at x 0 ∷ []) database) (same_itself database)))

record_not_own : Tree → (n : ℕ) → is_own private_directory (record_file n) ≡ false
record_not_own x n = own_doesnt_count (no_tree x (job_at x n)) (record_file n)
    (or_right (not (is_reserved (record_file n))) _ (or_right (same_name (record_file n) database) _ (or_left (is_job_name n (record_file n)) false (record_is_job n))))

pub not_own : (q : Name) → is_reserved q ≡ false → is_own private_directory q ≡ false
not_own q out = ⊎_elim (λ own. absurd (cc (own_reserved q own, out))) (λ other. other) (cases_Bool (is_own private_directory q))

pub same_on : (x y z : Tree) → StoresSame private_directory x y → StoresSame private_directory y z → StoresSame private_directory x z
same_on x y z first then q out = first q out ∙ then q out

-- ---- from one tree to the other

module _ (x y : Tree) (same : StoresSame private_directory x y) where
  at_database : get y database ≡ get x database
  at_database = sym (same database (database_not_own x))

  at_record : (n : ℕ) → get y (record_file n) ≡ get x (record_file n)
  at_record n = sym (same (record_file n) (record_not_own x n))

  pub same_date : is_up_to_date (get y database) ≡ is_up_to_date (get x database)
  same_date = ap is_up_to_date at_database

  pub same_database : (f : Format) (list : List TroveParts) (low high : ℕ) → HoldsDatabase f x list low high → HoldsDatabase f y list low high
  same_database f list low high (absent none empty a b) = absent (at_database ∙ none) empty a b
  same_database f list low high (written is file) = written is (file_stays x y database (database_bytes f list low high) at_database file)

  pub same_db : (db : Db) → HoldsDb x db → HoldsDb y db
  same_db db held = record { format = held.format; holds = same_database held.format db.installed db.oldest db.newest held.holds }

  same_record : (f : Format) (n : ℕ) (after before : List TroveParts) (es : List state.Entry) → HoldsRecord f x n after before es → HoldsRecord f y n after before es
  same_record f n after before es held = record { bytes = held.bytes; file = file_stays x y (record_file n) held.bytes (at_record n) held.file; text = held.text; checks = held.checks }

  same_records : (f : Format) (n : ℕ) (after : List TroveParts) (good : List (List state.Entry)) (before : List TroveParts) → HoldsRecords f x n after good before → HoldsRecords f y n after good before
  same_records f n after [] before held = held
  same_records f n after (es ∷ more) before held = (held.0, same_record f n after held.0 es held.1, same_records f (n - 1) held.0 more before held.2)

  same_rewritten : (count n : ℕ) (after : List TroveParts) (records : List Put) → AreRewritten x count n after records → AreRewritten y count n after records
  same_rewritten zero n after [] are = tt
  same_rewritten zero n after (p ∷ puts) are = absurd are
  same_rewritten (suc count) n after [] are = absurd are
  same_rewritten (suc count) n after (p ∷ puts) are =
      (are.0, are.1, are.2, are.3, same_record One n after are.0 are.1 are.4, are.5, are.6, same_rewritten count (n - 1) are.0 puts are.7)

  same_migration : (puts : List Put) → AreMigration x puts → AreMigration y puts
  same_migration puts m = record {
    list = m.list;
    oldest = m.oldest;
    newest = m.newest;
    holds = same_database One m.list m.oldest m.newest m.holds;
    records = m.records;
    rewritten = same_rewritten (job_count m.oldest m.newest) m.newest m.list m.records m.rewritten;
    mode = m.mode;
    writes = m.writes;
  }

  same_migrated : (found : Option (List Put)) → IsMigrated x found → IsMigrated y found
  same_migrated None new = same_date ∙ new
  same_migrated (Some puts) m = (same_date ∙ m.0, same_migration puts m.1)

  -- the same writes bring both to trees that store the same
  same_written : (found : Option (List Put)) → IsMigrated x found → StoresSame private_directory (with_migration found x) (with_migration found y)
  same_written None m = same
  same_written (Some puts) m = λ q out. ⊎_elim
      (λ hit. let t = target_at puts q hit in
      ap (get (with_targets puts x)) t.2 ∙ with_targets_target puts x t.0 m.1.writes.rises t.1
      ∙ sym (ap (get (with_targets puts y)) t.2 ∙ with_targets_target puts y t.0 m.1.writes.rises t.1))
      (λ miss. with_targets_outside puts x q miss ∙ same q out ∙ sym (with_targets_outside puts y q miss))
      (cases_Bool (is_target puts q))

  pub same_brought : (z : Tree) → IsBrought x z → IsBrought y z
  same_brought z brought = record {
    found = brought.found;
    migrated = same_migrated brought.found brought.migrated;
    stores = same_on z (with_migration brought.found x) (with_migration brought.found y) brought.stores (same_written brought.found brought.migrated);
  }

-- ---- what a tree recovers to

pub same_recovers : (image x y : Tree) → StoresSame private_directory x y → RecoversTo private_directory image x → RecoversTo private_directory image y
same_recovers image x y same (at_rest clear stores) = at_rest clear (λ q out. stores q out ∙ same q out)
same_recovers image x y same (by_log set puts holds stand can stores) = by_log set puts holds stand can (λ q out. stores q out ∙ same q out)

pub same_in_a_format : (image x y : Tree) → StoresSame private_directory x y → RecoversInAFormat x image → RecoversInAFormat y image
same_in_a_format image x y same (inl is) = inl (same_recovers image x y same is)
same_in_a_format image x y same (inr is) = inr (is.0, same_brought x y same is.0 is.1, is.2)

-- ---- damaged files

module _ (x y : Tree) (same : StoresSame private_directory x y) where
  back : StoresSame private_directory y x
  back = same_back x y same

  same_no_record : (f : Format) (n : ℕ) (after : List TroveParts) → HoldsNoRecord f x n after → HoldsNoRecord f y n after
  same_no_record f n after none before es held = none before es (same_record y x back f n after before es held)

  same_damaged_record : (count n : ℕ) (after : List TroveParts) (path : Name) → IsDamagedRecord One x count n after path → IsDamagedRecord One y count n after path
  same_damaged_record count n after path is = record {
    good = is.good;
    before = is.before;
    fewer = is.fewer;
    holds = same_records x y same One n after is.good is.before is.holds;
    none = same_no_record One (n - length is.good) is.before is.none;
    path_is = is.path_is;
  }

  same_damaged_file : (path : Name) → IsDamagedFile x path → IsDamagedFile y path
  same_damaged_file path (inl is) = inl (record {
    path_is = is.path_is;
    old = same_date x y same ∙ is.old;
    none = λ list low high holds. is.none list low high (same_database y x back One list low high holds);
  })
  same_damaged_file path (inr is) = inr (is.0, same_database x y same One is.0.installed is.0.oldest is.0.newest is.1, same_damaged_record (job_count is.0.oldest is.0.newest) is.0.newest is.0.installed path is.2)

  pub same_damaged : (path : Name) → IsDamagedStore x path → IsDamagedStore y path
  same_damaged path (inl is) = inl (same_damaged_file path is)
  same_damaged path (inr is) = inr (is.0, λ f list low high holds. is.1 f list low high (same_database y x back f list low high holds))
