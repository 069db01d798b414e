-- How a record is pushed.
use Rattle.std.proofs.Common.{◌≡◌, ⊎_elim, ℕ, Bool, true, false, List, Option, Result, IfErr, IsErrAnd, sym, subst}
use Rattle.job_targets.specs.cny-base.Count.{Rose}
use Rattle.job_targets.specs.cny-base.declared.stop.Stop.{Stop}
use Rattle.job_targets.specs.cny-base.declared.stop.Stop.TheVariants.{Refused, Memory, Failed, Damaged, FarFailed, FarDamaged}
use Rattle.job_targets.specs.tree-disk.Tree.{Name, Tree}
use Rattle.job_targets.specs.tree-disk.Disk.{DiskModel, IsDisk}
use Rattle.job_targets.specs.tree-disk.Moments.{shows_start}
use Rattle.job_targets.specs.tree-journal.Preparing.{StopsBefore}
use Rattle.job_targets.specs.tree-disk.Confined.{Among, Confined}
use Rattle.job_targets.proofs.tree-disk.ConfinedLaws.{confined_start, leaves_weaker}
use Rattle.local_db.specs.declared.format.Format.{Format}
use Rattle.local_db.specs.SystemState.{SystemState}
use Rattle.local_db.specs.Names.{counts}
use Rattle.local_db.specs.Stores.{StoresIn}
use Rattle.local_db.proofs.Frame.{stores_still}
use Rattle.job_targets.specs.declared.entry.Entry.{Entry}
use Rattle.rollback_stack.specs.Saving.{is_saving_name, IsNextJob, IsSavedJob, IsUntoldCollision, KeepsSystem}
use Rattle.rollback_stack.specs.Pushing.{IsPushStop}
use Rattle.change_rel.proofs.cny-base.Faults.{passed_on}

-- ---- the same run, by another name of the job that is cleared besides

pub confined_as : {D : Type 0} {disk : DiskModel D} {old new : D} {d o : Option ℕ} (n : ℕ) → d ≡ o → Confined disk (Among (is_saving_name n d)) old new → Confined disk (Among (is_saving_name n o)) old new
confined_as {disk = disk} {old = old} {new = new} n dropped run = subst (λ (k : Option ℕ). Confined disk (Among (is_saving_name n k)) old new) dropped run

pub saved_as : {n : ℕ} {d o : Option ℕ} {es : List Entry} {x : Tree} → d ≡ o → IsSavedJob n d es x → IsSavedJob n o es x
saved_as {n = n} {es = es} {x = x} dropped is = subst (λ (k : Option ℕ). IsSavedJob n k es x) dropped is

pub next_as : {s : SystemState} {n : ℕ} {d o : Option ℕ} → d ≡ o → IsNextJob s n o → IsNextJob s n d
next_as {s = s} {n = n} dropped next = subst (λ (k : Option ℕ). IsNextJob s n k) (sym dropped) next

-- ---- no call at all

pub keeps_start : {D : Type 0} {disk : DiskModel D} (laws : IsDisk disk) (f : Format) (s : SystemState) (d : D) → ((q : Name) → counts s q ≡ true → disk.unsynced d q ≡ false) → StoresIn f (disk.reads d) s
    → KeepsSystem disk f s d d
keeps_start {disk = disk} laws f s d synced stores =
    let run = confined_start laws (λ (q : Name). ⊥) d in record {
      now = stores;
      visible = shows_start d (λ t. StoresIn f t s);
      images = leaves_weaker (λ image differs. stores_still f (disk.reads d) image s
          (λ q count. differs.agrees q (λ h. ⊎_elim (λ un. absurd (cc (un, synced q count))) (λ never. never) h)) stores) run.images;
    }

-- ---- stops

push_stop : (told : Bool) (before now : ℕ) (e : Stop) → StopsBefore (IsUntoldCollision told) before now e → IsPushStop told (Rose before now) e
push_stop told before now Failed stops = stops
push_stop told before now Memory stops = tt
push_stop told before now (Refused why) stops = stops
push_stop told before now (Damaged path) stops = stops
push_stop told before now FarFailed stops = stops
push_stop told before now (FarDamaged path) stops = stops

pub stopped_push : {T : Type 0} (told : Bool) (before now : ℕ) (e : Stop) (r : Result T Stop) → IsErrAnd r (λ s. s ≡ e) → StopsBefore (IsUntoldCollision told) before now e → IfErr r (IsPushStop told (Rose before now))
stopped_push told before now e r is stops = passed_on (IsPushStop told (Rose before now)) e r (push_stop told before now e stops) is
