-- What is saved beside a stored system, and a disk that is ready for it.
use Rattle.std.proofs.Common.{◌≡◌, ◌⊎◌, ⊎_elim, ℕ, ◌+◌, ◌-◌, ◌<◌, ◌^◌, Bool, true, false, cond, ◌&&◌, IsTrue, List, Option, Some, None, Result, refl, sym, ◌∙◌, ap, subst, arith}
use Rattle.std.specs.Prelude.{nat_lt, if◌then◌else◌}
use Rattle.std.specs.FinMap.{get}
use Rattle.job_targets.specs.cny-base.Reserved.{private_directory}
use Rattle.job_targets.specs.cny-base.declared.stop.Stop.{Stop}
use Rattle.job_targets.specs.tree-disk.Tree.{Name, Tree, same_name, is_dir}
use Rattle.job_targets.specs.tree-disk.Clear.{is_within, IsBare, without_tree}
use Rattle.job_targets.proofs.tree-disk.ClearLaws.{get-without_tree, or_cases}
use Rattle.job_targets.specs.tree-disk.Rows.{is_dir_at}
use Rattle.job_targets.specs.tree-disk.Disk.{DiskModel, one_name}
use Rattle.job_targets.specs.tree-disk.Steps.{Makes, Within}
use Rattle.job_targets.specs.tree-disk.Moments.{shows_weaker}
use Rattle.job_targets.specs.tree-disk.Confined.{AgreesExcept, Among, Confined, DiffersOnlyAt}
use Rattle.job_targets.proofs.tree-disk.ConfinedLaws.{leaves_weaker}
use Rattle.job_targets.proofs.tree-journal.OwnFiles.{base_stands, get-base_other}
use Rattle.local_db.specs.declared.format.Format.{Format}
use Rattle.local_db.specs.SystemState.{SystemState, newest, oldest, IsSystemState}
use Rattle.local_db.specs.Names.{counts, is_job_place, record_file, saved}
use Rattle.local_db.specs.Stores.{StoresIn}
use Rattle.local_db.specs.Steps.{is_prepared_name, pushed}
use Rattle.local_db.proofs.Frame.{stores_still}
use Rattle.local_db.proofs.Images.{prepared_doesnt_count}
use Rattle.local_db.proofs.Places.{one_job}
use Rattle.job_targets.specs.declared.entry.Entry.{Entry}
use Rattle.rollback_stack.specs.Saving.{is_dropped_place, is_saving_name, made_ready, without_dropped, without_job, AreSaved, IsNextJob, IsSavedJob, KeepsSystem}
use Rattle.rollback_stack.proofs.Places.{base_not_saved, place_not_base, record_not_saved}
use Rattle.tree_scan.proofs.tree-disk.Without.{elsewhere}
use Rattle.change_rel.proofs.cny-base.Bools.{first_false as first_no, or_left, or_right, second_false as rest_no}

-- ---- the names of a run

pub base_name : (number : ℕ) (dropped : Option ℕ) → Within (one_name private_directory) (is_saving_name number dropped)
base_name number dropped q h = or_left (same_name q private_directory) _ h

pub own_name : (number : ℕ) (dropped : Option ℕ) → Within (is_job_place number) (is_saving_name number dropped)
own_name number dropped q h = or_right (same_name q private_directory) _ (or_left (is_job_place number q) _ h)

pub dropped_name : (number : ℕ) (dropped : Option ℕ) → Within (is_dropped_place dropped) (is_saving_name number dropped)
dropped_name number dropped q h = or_right (same_name q private_directory) _ (or_right (is_job_place number q) _ h)

-- the job that is cleared besides
pub dropped_makes : {D X : Type 0} {disk : DiskModel D} {old new : D} {r : Result X Stop} (dropped : Option ℕ) (n : ℕ) → dropped ≡ Some n → Makes disk (is_job_place n) (without_job n) old new r
    → Makes disk (is_dropped_place dropped) (without_dropped dropped) old new r
dropped_makes {disk = disk} {old = old} {new = new} {r = r} dropped n is makes = subst (λ (o : Option ℕ). Makes disk (is_dropped_place o) (without_dropped o) old new r) (sym is) makes

-- ---- names that don't count

dropped_place : (b : Bool) (n : ℕ) (q : Name) → is_dropped_place (if b then Some n else None) q ≡ true → (b && is_job_place n q) ≡ true
dropped_place true n q h = h
dropped_place false n q h = absurd (cc h)

prepared_name : (s : SystemState) (number : ℕ) (dropped : Option ℕ) (next : IsNextJob s number dropped) (q : Name) → is_saving_name number dropped q ≡ true
    → is_prepared_name s (pushed next.job s.stack) q ≡ true
prepared_name s number dropped next q h = ⊎_elim
    (λ base. or_left (same_name q private_directory) _ base)
    (λ more. or_right (same_name q private_directory) _ (⊎_elim
    (λ own. or_left (is_job_place (newest s.stack + 1) q) _ (ap (λ (n : ℕ). is_job_place n q) (sym next.next) ∙ own))
    (λ other. or_right (is_job_place (newest s.stack + 1) q) _
    (dropped_place (nat_lt 2 low) (low - 2) q (ap (λ (o : Option ℕ). is_dropped_place o q) (sym next.dropped_is) ∙ other)))
    (or_cases (is_job_place number q) (is_dropped_place dropped q) more)))
    (or_cases (same_name q private_directory) _ h)
  where
    low : ℕ
    low = oldest (pushed next.job s.stack)

pub not_counted : (s : SystemState) (number : ℕ) (dropped : Option ℕ) → IsNextJob s number dropped → number < 2 ^ 32 → IsSystemState s
    → (q : Name) → is_saving_name number dropped q ≡ true → counts s q ≡ false
not_counted s number dropped next fits system q h =
    prepared_doesnt_count s next.job system (next.number_is ∙ next.next) (let is = next.number_is in omega (arith, is, fits)) q (prepared_name s number dropped next q h)

module _ (f : Format) (x : Tree) (s : SystemState) (number : ℕ) (dropped : Option ℕ) (next : IsNextJob s number dropped) (fits : number < 2 ^ 32) (stores : StoresIn f x s) where
  pub read_still : (y : Tree) → AgreesExcept (Among (is_saving_name number dropped)) y x → StoresIn f y s
  read_still y agrees = stores_still f x y s (λ q count. agrees q (λ h. absurd (cc (count, not_counted s number dropped next fits stores.system q h)))) stores

  pub left_still : (y : Tree) (unsynced : Name → Bool) → ((q : Name) → counts s q ≡ true → unsynced q ≡ false)
      → DiffersOnlyAt (λ q. IsTrue (unsynced q) ⊎ Among (is_saving_name number dropped) q) x y → StoresIn f y s
  left_still y unsynced synced differs = stores_still f x y s
      (λ q count. differs.agrees q (λ h. ⊎_elim
      (λ un. absurd (cc (un, synced q count)))
      (λ name. absurd (cc (count, not_counted s number dropped next fits stores.system q name))) h)) stores

-- at every moment of a run that keeps to these names
pub keeps_system : {D : Type 0} {disk : DiskModel D} {old new : D} (f : Format) (s : SystemState) (number : ℕ) (dropped : Option ℕ) → IsNextJob s number dropped → number < 2 ^ 32
    → Confined disk (Among (is_saving_name number dropped)) old new → ((q : Name) → counts s q ≡ true → disk.unsynced old q ≡ false) → StoresIn f (disk.reads old) s → KeepsSystem disk f s old new
keeps_system {disk = disk} {old = old} {new = new} f s number dropped next fits run synced stores = record {
  now = read_still f (disk.reads old) s number dropped next fits stores (disk.reads new) run.reads;
  visible = shows_weaker (λ t agrees. read_still f (disk.reads old) s number dropped next fits stores t agrees) run.visible;
  images = leaves_weaker (λ image differs. left_still f (disk.reads old) s number dropped next fits stores image (disk.unsynced old) synced differs) run.images;
}

-- ---- a tree that is ready

none_stays : (t : Tree) (p q : Name) → get t q ≡ None → get (without_tree t p) q ≡ None
none_stays t p q none = get-without_tree t p q ∙ either (is_within p q) (get t q) none
  where
    either : {A : Type 0} (b : Bool) (o : Option A) → o ≡ None → cond b None o ≡ None
    either true o is = refl
    either false o is = is

gone : (t : Tree) (p q : Name) → is_within p q ≡ true → get (without_tree t p) q ≡ None
gone t p q within = get-without_tree t p q ∙ ap (λ (b : Bool). cond b None (get t q)) within

job_gone : (n : ℕ) (t : Tree) (q : Name) → is_job_place n q ≡ true → get (without_job n t) q ≡ None
job_gone n t q h = ⊎_elim
    (λ record_is. none_stays (without_tree t (record_file n)) (saved n) q (gone t (record_file n) q record_is))
    (λ saved_is. gone (without_tree t (record_file n)) (saved n) q saved_is)
    (or_cases (is_within (record_file n) q) (is_within (saved n) q) h)

job_none_stays : (n : ℕ) (t : Tree) (q : Name) → get t q ≡ None → get (without_job n t) q ≡ None
job_none_stays n t q none = none_stays (without_tree t (record_file n)) (saved n) q (none_stays t (record_file n) q none)

pub job_elsewhere : (n : ℕ) (t : Tree) (q : Name) → is_job_place n q ≡ false → get (without_job n t) q ≡ get t q
job_elsewhere n t q h =
    elsewhere (without_tree t (record_file n)) (saved n) q (rest_no (is_within (record_file n) q) (is_within (saved n) q) h)
    ∙ elsewhere t (record_file n) q (first_no (is_within (record_file n) q) (is_within (saved n) q) h)

pub dropped_elsewhere : (dropped : Option ℕ) (t : Tree) (q : Name) → ((n : ℕ) → is_job_place n q ≡ false) → get (without_dropped dropped t) q ≡ get t q
dropped_elsewhere None t q apart = refl
dropped_elsewhere (Some n) t q apart = job_elsewhere n t q (apart n)

place_ready : (number : ℕ) (dropped : Option ℕ) (t : Tree) (q : Name) → is_job_place number q ≡ true → get (made_ready number dropped t) q ≡ None
place_ready number dropped t q h =
    get-base_other private_directory (without_job number (without_dropped dropped t)) q (place_not_base number q h) ∙ job_gone number (without_dropped dropped t) q h

dropped_ready : (number : ℕ) (dropped : Option ℕ) (t : Tree) (n : ℕ) → dropped ≡ Some n → (q : Name) → is_job_place n q ≡ true → get (made_ready number dropped t) q ≡ None
dropped_ready number None t n is q h = absurd (cc is)
dropped_ready number (Some m) t n is q h =
    let place : is_job_place m q ≡ true = ap (λ (k : ℕ). is_job_place k q) (one is) ∙ h in
    get-base_other private_directory (without_job number (without_job m t)) q (place_not_base m q place) ∙ job_none_stays number (without_job m t) q (job_gone m t q place)
  where
    one : let o : Option ℕ = Some m in o ≡ Some n → m ≡ n
    one e = cc e

pub base_ready : (number : ℕ) (dropped : Option ℕ) (old mid : Tree) → mid ≡ made_ready number dropped old → is_dir_at mid private_directory ≡ true
base_ready number dropped old mid is =
    ap (λ (t : Tree). is_dir_at t private_directory) is ∙ base_stands private_directory (without_job number (without_dropped dropped old))

pub saved_ready : (number : ℕ) (dropped : Option ℕ) (old mid : Tree) → mid ≡ made_ready number dropped old → IsBare mid (saved number)
saved_ready number dropped old mid is q within =
    ap (λ (t : Tree). get t q) is ∙ place_ready number dropped old q (or_right (is_within (record_file number) q) _ within)

-- ---- the job is saved

pub is_saved_job : (number : ℕ) (dropped : Option ℕ) (es : List Entry) (old mid new : Tree) → number < 2 ^ 32 → ((n : ℕ) → dropped ≡ Some n → n < 2 ^ 32) → mid ≡ made_ready number dropped old
    → AgreesExcept (Among (is_within (saved number))) new mid → AreSaved number es new → IsSavedJob number dropped es new
is_saved_job number dropped es old mid new fits dropped_fits is agrees are = record {
  base = ap is_dir (agrees private_directory (λ h. absurd (cc (h, base_not_saved number)))) ∙ base_ready number dropped old mid is;
  no_record = λ q within. agrees q (λ h. absurd (cc (h, record_not_saved number number q within)))
      ∙ ap (λ (t : Tree). get t q) is ∙ place_ready number dropped old q (or_left (is_within (record_file number) q) _ within);
  contents = are;
  cleared = λ n dropped_is other q place. agrees q (λ h. absurd (other (one_job n number q (dropped_fits n dropped_is) fits place (or_right (is_within (record_file number) q) _ h))))
      ∙ ap (λ (t : Tree). get t q) is ∙ dropped_ready number dropped old n dropped_is q place;
}

pub saving_within : (number : ℕ) (dropped : Option ℕ) (q : Name) → Among (is_within (saved number)) q → Among (is_saving_name number dropped) q
saving_within number dropped q h = or_right (same_name q private_directory) _ (or_left (is_job_place number q) _ (or_right (is_within (record_file number) q) _ h))

-- the private directory stays where contents are saved
pub base_stays : (number : ℕ) (old new : Tree) → AgreesExcept (Among (is_within (saved number))) new old → is_dir_at old private_directory ≡ true → is_dir_at new private_directory ≡ true
base_stays number old new agrees stands = ap is_dir (agrees private_directory (λ h. absurd (cc (h, base_not_saved number)))) ∙ stands
