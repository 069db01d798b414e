-- The root that was made ready, as one that was opened.
use Rattle.std.proofs.Common.{◌≡◌, ◌≤◌, Bool, true, false, Result, Ok, Err, IfOk, IfErr, refl, sym, ◌∙◌, subst, inl, inr, ⊎_elim}
use Rattle.std.specs.Prelude.{◌⊎◌, IsTrue}
use Rattle.std.specs.FinMap.{get}
use Rattle.cny_laws.specs.system-core.cny-base.Reserved.{private_directory, is_reserved}
use Rattle.cny_laws.specs.system-core.cny-base.declared.refusal.Refusal.{Refusal}
use Rattle.cny_laws.specs.system-core.cny-base.declared.stop.Stop.{Stop}
use Rattle.cny_laws.specs.system-core.cny-base.declared.stop.Stop.TheVariants as stop
use Rattle.cny_laws.specs.system-core.tree-disk.Tree.{Name, Tree, AgreesOutside}
use Rattle.cny_laws.specs.system-core.tree-disk.Disk.{DiskModel, HasRead}
use Rattle.cny_laws.specs.system-core.tree-disk.Confined.{Among, Confined}
use Rattle.cny_laws.proofs.system-core.tree-disk.ConfinedLaws.{leaves_weaker}
use Rattle.cny_laws.proofs.system-core.tree-disk.Laws.{same_tree}
use Rattle.cny_laws.specs.system-core.tree-disk.Steps.{no_name}
use Rattle.cny_laws.specs.system-core.journal-log.Own.{StoresSame}
use Rattle.cny_laws.specs.system-core.tree-journal.Recovery.{is_committed, RecoversTo, at_rest, by_log}
use Rattle.local_db.specs.declared.db.Db.{Db}
use Rattle.cny_laws.specs.system-core.rollback-stack.Migrated.{is_up_to_date}
use Rattle.local_db.specs.declared.format.Format.TheVariants.{Two}
use Rattle.local_db.specs.Names.{database}
use Rattle.local_db.specs.Stores.{IsDatabase, RecoversToSystem}
use Rattle.cny_laws.specs.system-core.FixedDirs.{fixed_dirs}
use Rattle.cny_laws.specs.system-core.Migrating.{RecoversInAFormat}
use Rattle.cny_laws.specs.system-core.Ready.{HasReadied, IsReadyStop, MakesReady, MeetsDamagedStore}
use Rattle.cny_laws.specs.system-core.tree-journal.Recovered.{RecoversToNone}
use Rattle.cny_laws.specs.Opening.{OpeningStops}
use Rattle.cny_laws.specs.RootOpening.{IsOfOldFormat, IsDecided, IsRootKept, IsRootOpen, OpensFrom, OpensSystem}
use Rattle.cny_laws.specs.State.{RootState}
use Rattle.cny_laws.specs.Store.{Recovers, HasDamageAtOpening}
use Rattle.cny_laws.specs.Stores.{root_store}
use Rattle.cny_laws.proofs.system-core.Sameness.{not_own}

-- ---- names and trees

-- what a root recovers to stores the same as other trees to which it recovers
pub recovers_same : {base : Name} {image tree other : Tree} → RecoversTo base image tree → StoresSame base other tree → RecoversTo base image other
recovers_same (at_rest clear stores) same = at_rest clear (λ q out. stores q out ∙ sym (same q out))
recovers_same (by_log set puts holds stand can stores) same = by_log set puts holds stand can (λ q out. stores q out ∙ sym (same q out))

pub as_system : (tree : Tree) (s : RootState) → Recovers root_store tree s → RecoversToSystem tree s
as_system tree s rec = (rec.tree, rec.recovers, rec.stored)

pub of_system : (tree : Tree) (s : RootState) → RecoversToSystem tree s → Recovers root_store tree s
of_system tree s rec = record { tree = rec.0; recovers = rec.1; stored = rec.2 }

-- nothing was changed
pub untouched_tree : {D : Type 0} {disk : DiskModel D} {old new : D} → Confined disk (Among no_name) old new → disk.reads new ≡ disk.reads old
untouched_tree {disk = disk} {old = old} {new = new} confined = same_tree (disk.reads new) (disk.reads old) (λ p. confined.reads p (λ among. absurd cc))

pub kept_itself : (tree : Tree) → IsRootKept tree tree
kept_itself tree = record {
  still = λ s rec. rec;
  stored = λ x rec. inl rec;
  outer = λ x rec. record { recovered = x; recovers = rec; outer = λ q out. refl };
  same = λ clear. inl refl;
}

-- ---- what was promised of the root

pub record Ready {D : Type 0} (disk : DiskModel D) (old new : D) (result : Result Db Stop) : Type 0 where
  pub ready : IsTrue disk.tells → IfOk result (HasReadied disk old new)
  pub makes : IsTrue disk.tells → (s : RootState) → RecoversToSystem (disk.reads old) s → MakesReady disk s old new result
  pub reads : IsTrue disk.tells → (x : Tree) → RecoversTo private_directory (disk.reads old) x → RecoversInAFormat x (disk.reads new)
  pub missing : IsTrue disk.tells → (why : Refusal) → fixed_dirs (disk.reads old) ≡ Err why → HasRead disk old new (Unit {0})
  pub untouched : IsTrue disk.tells → RecoversToNone private_directory (disk.reads old) → Confined disk (Among no_name) old new
  pub clear : IsTrue disk.tells → is_committed private_directory (disk.reads old) ≡ false → is_up_to_date (get (disk.reads old) database) ≡ true → Confined disk (Among no_name) old new
  pub outer : IsTrue disk.tells → is_committed private_directory (disk.reads old) ≡ false → AgreesOutside is_reserved (disk.reads new) (disk.reads old)
  pub database : IfOk result (λ db. IsDatabase Two db.installed db.oldest db.newest)
  pub stops : IfErr result (IsReadyStop disk old new)
  pub later : disk.faults old ≤ disk.faults new

module _ {D : Type 0} {disk : DiskModel D} (old new : D) where
  pub from_ready : (result : Result Db Stop) → Ready disk old new result → IsTrue disk.tells → (s : RootState) → Recovers root_store (disk.reads old) s → OpensFrom disk s old new
  from_ready result ready told s rec =
      let m = ready.makes told s (as_system (disk.reads old) s rec) in
      record {
        images = leaves_weaker (λ image is. ⊎_elim (λ entry. inl entry) (λ r. inr (of_system image s r)) is) m.images;
        seen = m.shown;
        reads = of_system (disk.reads new) s m.reads;
        outside = ready.outer told;
      }

  -- ---- it is open

  pub is_open : (db : Db) → Ready disk old new (Ok db) → IsTrue disk.tells → IsRootOpen disk old new db
  is_open db ready told =
      let h : HasReadied disk old new db = ready.ready told in
      record {
        settled = record { flag_clear = h.ready.flag_clear; synced = h.ready.synced };
        fixed = h.fixed;
        reached = record { recovered = h.recovered.0; recovers = h.recovered.1; outer = (h.readied h.recovered.0 h.recovered.1).outer };
        stores = λ s rec. inr (ready.makes told s (as_system (disk.reads old) s rec)).rests.stores;
        holds = h.ready.holds;
        database = record { tree = h.recovered.0; recovers = h.recovered.1; held = λ x rec. (h.readied x rec).held };
        brought = λ x rec. (h.readied x rec).brought;
      }

  -- ---- it is kept

  -- where the commit flag wasn't set
  pub same_or_brought : (result : Result Db Stop) → Ready disk old new result → IsTrue disk.tells → is_committed private_directory (disk.reads old) ≡ false → (b : Bool) → is_up_to_date (get (disk.reads old) database) ≡ b
      → (disk.reads new ≡ disk.reads old) ⊎ IsOfOldFormat (disk.reads old) (disk.reads new)
  same_or_brought result ready told off true is = inl (untouched_tree (ready.clear told off is))
  same_or_brought result ready told off false is = inr (record { old = is; outer = ready.outer told off })

  -- at rest it stores each tree to which it recovered, outside the private directory
  pub kept_at_rest : (result : Result Db Stop) → Ready disk old new result → IsTrue disk.tells → is_committed private_directory (disk.reads new) ≡ false
      → ((x : Tree) → RecoversTo private_directory (disk.reads old) x → AgreesOutside is_reserved (disk.reads new) x) → IsRootKept (disk.reads old) (disk.reads new)
  kept_at_rest result ready told rests outer = record {
    still = λ s rec. (from_ready result ready told s rec).reads;
    stored = ready.reads told;
    outer = λ x rec. record { recovered = disk.reads new; recovers = at_rest rests (λ q out. refl); outer = λ q out. sym (outer x rec q out) };
    same = λ off. same_or_brought result ready told off (is_up_to_date (get (disk.reads old) database)) refl;
  }

  pub kept_untouched : Confined disk (Among no_name) old new → IsRootKept (disk.reads old) (disk.reads new)
  kept_untouched confined = subst (IsRootKept (disk.reads old)) (sym (untouched_tree confined)) (kept_itself (disk.reads old))

  pub is_kept : (result : Result Db Stop) → Ready disk old new result → IsTrue disk.tells → IsDecided result → IsRootKept (disk.reads old) (disk.reads new)
  is_kept (Ok db) ready told decided = let h : HasReadied disk old new db = ready.ready told in kept_at_rest (Ok db) ready told h.ready.flag_clear (λ x rec. (h.readied x rec).outer)
  is_kept (Err (stop.Refused r)) ready told decided = kept_untouched (ready.stops.1 told).kept
  is_kept (Err (stop.Damaged path)) ready told decided = ⊎_elim
      (λ log. kept_untouched log.kept)
      (λ file. kept_at_rest (Err (stop.Damaged path)) ready told file.rests.flag_clear (λ x rec q out. file.stores x rec q (not_own q out)))
      (ready.stops told)
  is_kept _ ready told decided = absurd decided

  -- ---- why it isn't opened

  -- of the tree that it reads then the file is damaged, and that tree stores no system
  pub damaged_file : (path : Name) → Ready disk old new (Err (stop.Damaged path)) → IsTrue disk.tells → MeetsDamagedStore disk old new path → HasDamageAtOpening root_store (disk.reads new) path
  damaged_file path ready told file =
      let now : RecoversTo private_directory (disk.reads old) (disk.reads new) = recovers_same file.recovered.1 (file.stores file.recovered.0 file.recovered.1) in
      record {
        flag_clear = file.rests.flag_clear;
        damaged = (file.damaged (disk.reads new) now, λ s stored. (ready.makes told s (disk.reads new, now, stored)).ends);
      }

  pub stops_at : (e : Stop) → Ready disk old new (Err e) → OpeningStops root_store disk fixed_dirs old new e
  stops_at stop.Failed ready = ready.stops
  stops_at stop.Memory ready = tt
  stops_at (stop.Refused r) ready = record {
    of_path = ready.stops.0;
    told = λ told. record { same = untouched_tree (ready.stops.1 told).kept; cause = ⊎_elim (λ dir. inr dir) (λ log. inl log) (ready.stops.1 told).cause };
  }
  stops_at (stop.Damaged path) ready = λ told. ⊎_elim
      (λ log. inl (record { damaged = log.damaged; same = untouched_tree log.kept }))
      (λ file. inr (damaged_file path ready told file))
      (ready.stops told)
  stops_at stop.FarFailed ready = absurd ready.stops
  stops_at (stop.FarDamaged path) ready = absurd ready.stops

  pub opened_so : (result : Result Db Stop) → Ready disk old new result → IsTrue disk.tells → IfOk result (IsRootOpen disk old new)
  opened_so (Ok db) ready told = is_open db ready told
  opened_so (Err e) ready told = tt

  pub stopped_so : (result : Result Db Stop) → Ready disk old new result → IfErr result (OpeningStops root_store disk fixed_dirs old new)
  stopped_so (Ok db) ready = tt
  stopped_so (Err e) ready = stops_at e ready

  pub opens_ready : (result : Result Db Stop) → Ready disk old new result → OpensSystem disk old new result
  opens_ready result ready = record {
    later = ready.later;
    from = from_ready result ready;
    opened = opened_so result ready;
    kept = is_kept result ready;
    missing = ready.missing;
    untouched = ready.untouched;
    rules = ready.database;
    stops = stopped_so result ready;
  }
