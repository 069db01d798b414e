-- A root that was opened, brought to format 2 and loaded.
use Rattle.std.proofs.Common.{◌≡◌, inl, inr, ⊎_elim, true, false, IsTrue, Result, Ok, Err, codes, refl, ◌∙◌, ap, arith}
use Rattle.std.specs.Prelude.{IfErr, IfOk}
use Rattle.std.specs.FinMap.{get}
use Rattle.rollback_stack.specs.cny-base.Path.{parent}
use Rattle.rollback_stack.specs.cny-base.Reserved.{private_directory, is_reserved}
use Rattle.rollback_stack.specs.cny-base.declared.stop.Stop.{Stop}
use Rattle.rollback_stack.specs.cny-base.declared.stop.Stop.TheVariants as stop
use Rattle.rollback_stack.specs.tree-disk.Confined.{Among}
use Rattle.rollback_stack.proofs.tree-disk.ConfinedLaws.{confined_read, confined_then, leaves_then, leaves_weaker}
use Rattle.rollback_stack.specs.tree-disk.Disk.{DiskModel, IsDisk}
use Rattle.rollback_stack.proofs.tree-disk.Moments.{rose_before}
use Rattle.rollback_stack.specs.tree-disk.Rows.{is_dir_at}
use Rattle.rollback_stack.specs.tree-disk.Steps.{no_name}
use Rattle.rollback_stack.specs.tree-disk.Tree.{Name, Tree}
use Rattle.rollback_stack.proofs.tree-disk.Unfailed.{unfailed_then, unfailed_weaker}
use Rattle.local_db.specs.declared.db.Db.{Db}
use Rattle.local_db.specs.Names.{database}
use Rattle.rollback_stack.specs.Migrated.{is_up_to_date}
use Rattle.system_core.proofs.FixedDirsLaws.{dirs_of, dirs_recovered}
use Rattle.system_core.specs.Migrating.{HasLoaded, IsLoadingStop, Loads}
use Rattle.system_core.specs.Opening.{HasRecoveredRoot, IsOpeningStop, RecoversRoot}
use Rattle.system_core.specs.Ready.{HasReadied, IsReadyStop, Readies}
use Rattle.system_core.proofs.Loaded.{brought_outer}
use Rattle.system_core.proofs.Rewritten.{rest_read}
use Rattle.system_core.proofs.Sameness.{not_own, same_brought, same_damaged, same_db, same_in_a_format}
use Rattle.local_db.proofs.FileNames.{base_is_path as directory_path}

-- ---- it wasn't opened

opening_stop : {D : Type 0} (disk : DiskModel D) (old mid : D) (e : Stop) → IsOpeningStop disk old mid e → IsReadyStop disk old mid e
opening_stop disk old mid stop.Failed is = is
opening_stop disk old mid stop.Memory is = tt
opening_stop disk old mid (stop.Refused why) is = is
opening_stop disk old mid (stop.Damaged path) is = λ tells. inl (is tells)
opening_stop disk old mid stop.FarFailed is = is
opening_stop disk old mid (stop.FarDamaged path) is = is

pub not_opened : {D : Type 0} (disk : DiskModel D) (old mid : D) (e : Stop) → RecoversRoot disk old mid (Err e) → Readies disk old mid (Err e)
not_opened disk old mid e opens = record {
  later = opens.later;
  images = λ tells. leaves_weaker (λ image is. ⊎_elim (λ entry. inl entry) (λ all. inr (λ x to. inl (all x to))) is) (opens.images tells);
  reads = λ tells x to. inl ((opens.kept tells).still x to);
  shown = λ tells. unfailed_weaker (λ t is x to q out. is x to q (not_own q out)) (opens.seen tells);
  readied = λ tells. tt;
  missing = opens.missing;
  untouched = opens.untouched;
  clear = λ tells off up. opens.clear tells off;
  outer = λ tells off q out. ap (λ (t : Tree). get t q) ((opens.kept tells).same off);
  database = tt;
  stops = opening_stop disk old mid e opens.stops;
}

-- ---- it was opened

module _ {D : Type 0} {disk : DiskModel D} (laws : IsDisk disk) (old mid new : D) (opens : RecoversRoot disk old mid (Ok tt)) where
  module _ (tells : IsTrue disk.tells) where
    opened : HasRecoveredRoot disk old mid
    opened = opens.opened tells

    pinned : (y : Tree) → ((q : Name) → is_reserved q ≡ false → get y q ≡ get (disk.reads mid) q) → is_dir_at y (parent private_directory) ≡ true
    pinned y outer =
        let fixed = dirs_recovered (disk.reads old) (disk.reads mid) (laws.reads_well_formed old) directory_path opened.recovers opened.fixed in
        rw (outer (codes "/var/lib") refl) (dirs_of (disk.reads mid) fixed).lib

    readied_so : (r : Result Db Stop) → IfOk r (HasLoaded disk mid new) → IfOk r (HasReadied disk old new)
    readied_so (Err e) loaded = tt
    readied_so (Ok db) loaded =
        let outer = brought_outer (disk.reads mid) (disk.reads new) loaded.brought in
        record {
          ready = record { flag_clear = loaded.rests.flag_clear; synced = loaded.rests.synced; pinned = pinned (disk.reads new) outer; holds = loaded.holds };
          fixed = opened.fixed;
          recovered = (disk.reads mid, opened.recovers);
          readied = λ x to. record {
            brought = same_brought (disk.reads mid) x (opened.stores x to) (disk.reads new) loaded.brought;
            outer = λ q out. outer q out ∙ opened.stores x to q (not_own q out);
            held = same_db (disk.reads mid) x (opened.stores x to) db loaded.held;
          };
        }

  pub ready_stops : (r : Result Db Stop) → IfErr r (IsLoadingStop disk mid new) → IfErr r (IsReadyStop disk old new)
  ready_stops (Ok db) is = tt
  ready_stops (Err stop.Failed) is = rose_before (disk.faults old) (disk.faults mid) (disk.faults new) opens.later is
  ready_stops (Err stop.Memory) is = tt
  ready_stops (Err (stop.Refused why)) is = absurd is
  ready_stops (Err (stop.Damaged path)) is = λ tells.
      let read = is tells in
      inr (record {
        recovered = (disk.reads mid, (opened tells).recovers);
        damaged = λ x to. same_damaged (disk.reads mid) x ((opened tells).stores x to) path read.answer;
        stores = λ x to q out. ap (λ (t : Tree). get t q) read.same.reads ∙ (opened tells).stores x to q out;
        rests = rest_read mid new read (opened tells).rests;
      })
  ready_stops (Err stop.FarFailed) is = is
  ready_stops (Err (stop.FarDamaged path)) is = is

  pub readies_so : (r : Result Db Stop) → Loads disk mid new r → Readies disk old new r
  readies_so r loads = record {
    later = omega (arith, opens.later, loads.later);
    images = λ tells. leaves_then
        (leaves_weaker (λ image is. ⊎_elim (λ entry. inl entry) (λ all. inr (λ x to. inl (all x to))) is) (opens.images tells))
        (leaves_weaker (λ image is. inr (λ x to. same_in_a_format image (disk.reads mid) x ((opened tells).stores x to) is)) (loads.images tells));
    reads = λ tells x to. same_in_a_format (disk.reads new) (disk.reads mid) x ((opened tells).stores x to) (loads.reads tells);
    shown = λ tells. unfailed_then opens.later loads.later
        (unfailed_weaker (λ t is x to q out. is x to q (not_own q out)) (opens.seen tells))
        (unfailed_weaker (λ t outer x to q out. inr (inl (outer q out ∙ (opened tells).stores x to q (not_own q out)))) (loads.shown tells));
    readied = λ tells. readied_so tells r (loads.loaded tells);
    missing = λ tells why is. let fixed = (opened tells).fixed in absurd (cc (fixed, is));
    untouched = λ tells none. absurd (none (disk.reads mid) (opened tells).recovers);
    clear = λ tells off up.
        let same = (opens.kept tells).same off in
        confined_then (opens.clear tells off) (confined_read laws (Among no_name) (loads.clear tells (ap (λ (t : Tree). is_up_to_date (get t database)) same ∙ up)));
    outer = λ tells off q out. loads.outer tells q out ∙ ap (λ (t : Tree). get t q) ((opens.kept tells).same off);
    database = loads.database;
    stops = ready_stops r loads.stops;
  }
