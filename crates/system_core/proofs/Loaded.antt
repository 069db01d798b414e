-- A root at rest whose database is loaded, once it is in format 2.
use Rattle.std.proofs.Common.{◌≡◌, inl, inr, ℕ, ◌≤◌, true, false, IsTrue, List, [], Option, Some, None, Result, Ok, Err, Contains, sym, ◌∙◌, ap, subst, arith}
use Rattle.std.specs.Prelude.{IfErr, IfOk}
use Rattle.std.proofs.lemmas.List.Elements.{All-head}
use Rattle.std.specs.FinMap.{get}
use Rattle.rollback_stack.specs.cny-base.Count.{Rose}
use Rattle.rollback_stack.specs.cny-base.Reserved.{private_directory, is_reserved}
use Rattle.rollback_stack.specs.cny-base.declared.stop.Stop.{Stop}
use Rattle.rollback_stack.specs.cny-base.declared.stop.Stop.TheVariants as stop
use Rattle.rollback_stack.specs.content-store.Store.{file_bytes}
use Rattle.rollback_stack.specs.journal-log.declared.put.Put.{Put}
use Rattle.rollback_stack.specs.journal-log.Own.{StoresSame}
use Rattle.rollback_stack.specs.journal-log.Targets.{with_targets}
use Rattle.rollback_stack.specs.trove-stream.declared.parts.TroveParts.{TroveParts}
use Rattle.rollback_stack.specs.tree-disk.Disk.{DiskModel, HasRead, IsDisk, Reads}
use Rattle.rollback_stack.proofs.tree-disk.ConfinedLaws.{leaves_then}
use Rattle.rollback_stack.proofs.tree-disk.Moments.{rose_before}
use Rattle.rollback_stack.specs.tree-disk.Tree.{Name, Tree, AgreesOutside}
use Rattle.rollback_stack.proofs.tree-disk.Unfailed.{unfailed_then}
use Rattle.local_db.specs.Database.{IsDb}
use Rattle.local_db.specs.Loading.{HoldsDb, IsLoadStop}
use Rattle.local_db.specs.declared.db.Db.{Db}
use Rattle.local_db.specs.Names.{database}
use Rattle.local_db.specs.Stores.{HoldsDatabase, IsDatabase, absent, written}
use Rattle.local_db.specs.declared.format.Format.{Format}
use Rattle.local_db.specs.declared.format.Format.TheVariants.{One, Two}
use Rattle.local_db.proofs.Writes.{with_targets_target}
use Rattle.rollback_stack.specs.Migrated.{AreMigration, IsMigrated, is_up_to_date}
use Rattle.rollback_stack.proofs.Doubling.{fits_two}
use Rattle.rollback_stack.proofs.Later.{read_then}
use Rattle.system_core.specs.Migrating.{HasLoaded, HasMigrated, IsBrought, IsDamagedStore, IsLoadingStop, IsMigratingStop, Loads, Migrates, RecoversInAFormat, with_migration}
use Rattle.system_core.proofs.Migration.{file_is_old, not_absent, not_outer}
use Rattle.system_core.proofs.Rewritten.{read_only, rest_leaves, rest_read, rest_reads, rest_shows}
use Rattle.system_core.proofs.Sameness.{database_not_own, not_own, same_database, same_date, same_db}
use Rattle.tree_journal.proofs.WriteSets.{with_targets_outside}
use Rattle.local_db.proofs.Together.{flip_same as same_back}

-- ---- databases

-- what fits a database of format 1 fits one of format 2
pub is_two : (f : Format) (list : List TroveParts) (low high : ℕ) → IsDatabase f list low high → IsDatabase Two list low high
is_two One list low high is = record { installed = is.installed; ends = is.ends; fits = fits_two list is.fits }
is_two Two list low high is = is

pub all_two : (r : Result Db Stop) → IfOk r IsDb → IfOk r (λ db. IsDatabase Two db.installed db.oldest db.newest)
all_two (Ok db) is = is_two is.format db.installed db.oldest db.newest is.database
all_two (Err e) is = tt

-- one that is up to date is held in format 2
pub two_held : (x : Tree) (db : Db) → is_up_to_date (get x database) ≡ true → HoldsDb x db → HoldsDatabase Two x db.installed db.oldest db.newest
two_held x db new held = by held.format held.holds
  where
    by : (f : Format) → HoldsDatabase f x db.installed db.oldest db.newest → HoldsDatabase Two x db.installed db.oldest db.newest
    by Two holds = holds
    by One (absent none list low high) = absent none list low high
    by One (written is file) = let old = file_is_old x db.installed db.oldest db.newest file in absurd (cc (new, old))

-- ---- a tree that was brought to format 2

module _ (x y : Tree) (puts : List Put) (old : is_up_to_date (get x database) ≡ false) (m : AreMigration x puts) (stores : StoresSame private_directory y (with_targets puts x)) where
  abbrev pub db_made : Db
  db_made = record { installed = m.list; oldest = m.oldest; newest = m.newest }

  pub old_held : IsDatabase One m.list m.oldest m.newest
  old_held = by m.holds
    where
      by : HoldsDatabase One x m.list m.oldest m.newest → IsDatabase One m.list m.oldest m.newest
      by (absent none list low high) = absurd (not_absent x old none)
      by (written is file) = is

  pub new_held : HoldsDatabase Two y m.list m.oldest m.newest
  new_held = written (is_two One m.list m.oldest m.newest old_held)
      (ap file_bytes (stores database (database_not_own x) ∙ with_targets_target puts x _ m.writes.rises (All-head (Contains puts) _ [] m.writes.some_in)))

-- what a root at rest stores is the same outside the private directory
pub brought_outer : (x y : Tree) → IsBrought x y → AgreesOutside is_reserved y x
brought_outer x y brought = by brought.found brought.migrated brought.stores
  where
    by : (found : Option (List Put)) → IsMigrated x found → StoresSame private_directory y (with_migration found x) → AgreesOutside is_reserved y x
    by None m stores q out = stores q (not_own q out)
    by (Some puts) m stores q out = stores q (not_own q out) ∙ with_targets_outside puts x q (not_outer x puts m.0 m.1 q out)

-- ---- the migration stopped

migrating_stop : {D : Type 0} (disk : DiskModel D) (old mid : D) (e : Stop) → IsMigratingStop disk old mid e → IsLoadingStop disk old mid e
migrating_stop disk old mid stop.Failed is = is
migrating_stop disk old mid stop.Memory is = tt
migrating_stop disk old mid (stop.Refused why) is = is
migrating_stop disk old mid (stop.Damaged path) is = λ tells. record { answer = inl (is tells).answer; same = (is tells).same; time = (is tells).time }
migrating_stop disk old mid stop.FarFailed is = is
migrating_stop disk old mid (stop.FarDamaged path) is = is

pub not_migrated : {D : Type 0} (disk : DiskModel D) (old mid : D) (e : Stop) → disk.faults old ≤ disk.faults mid → (IsTrue disk.tells → Migrates disk old mid (Err e)) → IsMigratingStop disk old mid e → Loads disk old mid (Err e)
not_migrated disk old mid e later migrates stops = record {
  later = later;
  images = λ tells. (migrates tells).images;
  reads = λ tells. (migrates tells).reads;
  shown = λ tells. (migrates tells).shown;
  outer = λ tells. (migrates tells).outer;
  loaded = λ tells. tt;
  clear = λ tells. (migrates tells).clear;
  database = tt;
  stops = migrating_stop disk old mid e stops;
}

-- ---- it was migrated, and only read since

module _ {D : Type 0} {disk : DiskModel D} (laws : IsDisk disk) (old mid new : D) (early : disk.faults old ≤ disk.faults mid) (late : disk.faults mid ≤ disk.faults new)
    (migrates : IsTrue disk.tells → Migrates disk old mid (Ok tt)) where
  module _ (tells : IsTrue disk.tells) where
    run : HasMigrated disk old mid
    run = (migrates tells).migrated

    since : {A : Type 0} → HasRead disk mid new A → IsBrought (disk.reads old) (disk.reads new)
    since read = subst (IsBrought (disk.reads old)) (sym read.same.reads) run.brought

    -- its database, in either case
    held_both : (db : Db) → HoldsDb (disk.reads mid) db → ((other : Db) → HoldsDb (disk.reads mid) other → db ≡ other)
        → HoldsDb (disk.reads old) db × HoldsDatabase Two (disk.reads mid) db.installed db.oldest db.newest
    held_both db held only = by run.brought.found run.brought.migrated run.brought.stores
      where
        by : (found : Option (List Put)) → IsMigrated (disk.reads old) found → StoresSame private_directory (disk.reads mid) (with_migration found (disk.reads old))
            → HoldsDb (disk.reads old) db × HoldsDatabase Two (disk.reads mid) db.installed db.oldest db.newest
        by None m stores = (
          same_db (disk.reads mid) (disk.reads old) stores db held,
          two_held (disk.reads mid) db (sym (same_date (disk.reads mid) (disk.reads old) stores) ∙ m) held,
        )
        by (Some puts) m stores =
            let made = new_held (disk.reads old) (disk.reads mid) puts m.0 m.1 stores in
            let same = only (db_made (disk.reads old) (disk.reads mid) puts m.0 m.1 stores) (record { format = Two; holds = made }) in (
              subst (HoldsDb (disk.reads old)) (sym same) (record { format = One; holds = m.1.holds }),
              subst (λ (other : Db). HoldsDatabase Two (disk.reads mid) other.installed other.oldest other.newest) (sym same) made,
            )

    loaded_so : HasRead disk mid new (Unit {0}) → (r : Result Db Stop) → IfOk r (HoldsDb (disk.reads mid)) → IfOk r (λ loaded. (db : Db) → HoldsDb (disk.reads mid) db → loaded ≡ db) → IfOk r (HasLoaded disk old new)
    loaded_so read (Err e) held only = tt
    loaded_so read (Ok db) held only =
        let both = held_both db held only in
        record {
          rests = rest_read mid new read run.rests;
          brought = since read;
          held = both.0;
          holds = subst (λ (t : Tree). HoldsDatabase Two t db.installed db.oldest db.newest) (sym read.same.reads) both.1;
        }

    -- a database that can't be loaded was not brought to format 2
    damaged_so : (path : Name) → HasRead disk mid new (Unit {0}) → path ≡ database → ((f : Format) (list : List TroveParts) (low high : ℕ) → HoldsDatabase f (disk.reads mid) list low high → ⊥) → HasRead disk old new (IsDamagedStore (disk.reads old) path)
    damaged_so path read here none = by run.brought.found run.brought.migrated run.brought.stores
      where
        by : (found : Option (List Put)) → IsMigrated (disk.reads old) found → StoresSame private_directory (disk.reads mid) (with_migration found (disk.reads old)) → HasRead disk old new (IsDamagedStore (disk.reads old) path)
        by None m stores =
            let both = read_then laws ((migrates tells).clear m) read in
            record {
              answer = inr (here, λ f list low high holds. none f list low high (same_database (disk.reads old) (disk.reads mid) (same_back (disk.reads mid) (disk.reads old) stores) f list low high holds));
              same = both.same;
              time = both.time;
            }
        by (Some puts) m stores = absurd (none Two m.1.list m.1.oldest m.1.newest (new_held (disk.reads old) (disk.reads mid) puts m.0 m.1 stores))

  pub load_stops : (IsTrue disk.tells → HasRead disk mid new (Unit {0})) → (r : Result Db Stop) → IfErr r (IsLoadStop disk.tells (disk.reads mid) (Rose (disk.faults mid) (disk.faults new))) → IfErr r (IsLoadingStop disk old new)
  load_stops read (Ok db) is = tt
  load_stops read (Err stop.Failed) is = rose_before (disk.faults old) (disk.faults mid) (disk.faults new) early is
  load_stops read (Err stop.Memory) is = tt
  load_stops read (Err (stop.Damaged path)) is = λ tells. damaged_so tells path (read tells) is.0 (is.1 tells)
  load_stops read (Err (stop.Refused why)) is = is
  load_stops read (Err stop.FarFailed) is = is
  load_stops read (Err (stop.FarDamaged path)) is = is

  pub loads_so : (r : Result Db Stop) → Reads disk mid new (IfOk r (HoldsDb (disk.reads mid))) → (IsTrue disk.tells → IfOk r (λ loaded. (db : Db) → HoldsDb (disk.reads mid) db → loaded ≡ db)) → IfOk r IsDb
      → IfErr r (IsLoadStop disk.tells (disk.reads mid) (Rose (disk.faults mid) (disk.faults new))) → Loads disk old new r
  loads_so r reads only rules stops = record {
    later = omega (arith, early, late);
    images = λ tells. leaves_then (migrates tells).images
        (rest_leaves laws (RecoversInAFormat (disk.reads old)) mid new (reads tells) (run tells).rests (λ image is. inr (disk.reads mid, (run tells).brought, is)));
    reads = λ tells. subst (RecoversInAFormat (disk.reads old)) (sym (reads tells).same.reads) (inr (disk.reads mid, (run tells).brought, rest_reads mid (run tells).rests));
    shown = λ tells. unfailed_then early late (migrates tells).shown
        (rest_shows laws (disk.reads old) mid new (reads tells) (brought_outer (disk.reads old) (disk.reads mid) (run tells).brought));
    outer = λ tells q out. ap (λ (t : Tree). get t q) (reads tells).same.reads ∙ (migrates tells).outer q out;
    loaded = λ tells. loaded_so tells (read_only (reads tells).same (reads tells).time) r (reads tells).answer (only tells);
    clear = λ tells up. read_then laws ((migrates tells).clear up) (read_only (reads tells).same (reads tells).time);
    database = all_two r rules;
    stops = load_stops (λ tells. read_only (reads tells).same (reads tells).time) r stops;
  }
