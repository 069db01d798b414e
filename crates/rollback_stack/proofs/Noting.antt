-- The jobs of a stack, read from the newest down.
use Rattle.std.proofs.Common.{◌≡◌, ⊎_elim, ℕ, zero, suc, ◌+◌, ◌-◌, ◌<◌, List, [], ◌∷◌, ◌++◌, length, refl, sym, ◌∙◌, ap, subst, arith, append_assoc, length-append}
use Rattle.std.proofs.lemmas.List.{append-nil}
use Rattle.job_targets.specs.trove-stream.declared.parts.TroveParts.{TroveParts}
use Rattle.job_targets.specs.tree-disk.Tree.{Name, Tree}
use Rattle.local_db.specs.declared.format.Format.{Format}
use Rattle.local_db.specs.declared.format.Format.TheVariants.{Two}
use Rattle.local_db.specs.Formats.{AreEnds}
use Rattle.local_db.specs.Names.{record_file}
use Rattle.local_db.specs.Record as state
use Rattle.past_jobs.specs.Past.{AreChangedIds}
use Rattle.job_targets.specs.trove-parts.declared.id.TroveId.{TroveId}
use Rattle.rollback_stack.specs.JobReading.{HoldsNoRecord, HoldsRecord, HoldsRecords, IsDamagedRecord}
use Rattle.rollback_stack.specs.declared.undo.NotedJob.{NotedJob}
use Rattle.rollback_stack.specs.Numbers.{job_count}
use Rattle.rollback_stack.specs.Reading.{AreNotes, IsNote}

-- ---- numbers

pub count_is : (oldest newest : ℕ) → AreEnds oldest newest → (newest ≡ 0 → ⊥) → job_count oldest newest ≡ newest - oldest + 1
count_is zero newest ends some = ⊎_elim (λ none. absurd (some none.1)) (λ job. absurd (let low = job.0 in omega (arith, low))) ends
count_is (suc below) newest ends some = ⊎_elim (λ none. absurd (some none.1)) (λ job. let low = job.1 in omega (arith, low)) ends

pub none_of_none : (oldest newest : ℕ) → AreEnds oldest newest → newest ≡ 0 → job_count oldest newest ≡ 0
none_of_none zero newest ends none = refl
none_of_none (suc below) newest ends none = omega (arith, none)

-- ---- one record more

pub records_push : (f : Format) (x : Tree) (number : ℕ) (after middle before : List TroveParts) (good : List (List state.Entry)) (es : List state.Entry)
    → HoldsRecords f x number after good middle → HoldsRecord f x (number - length good) middle before es → HoldsRecords f x number after (good ++ es ∷ []) before
records_push f x number after middle before [] es held here =
    let same : number - 0 ≡ number = omega arith in
    (before, subst (λ (n : ℕ). HoldsRecord f x n after before es) same (subst (λ (l : List TroveParts). HoldsRecord f x (number - 0) l before es) held here), refl)
records_push f x number after middle before (ds ∷ good) es held here =
    let same : number - suc (length good) ≡ (number - 1) - length good = omega arith in
    (held.0, held.1, records_push f x (number - 1) held.0 middle before good es held.2 (subst (λ (n : ℕ). HoldsRecord f x n middle before es) same here))

-- ---- the jobs so far

-- So many records from the newest down were read, and lead to this list; with notes of the others these notes are those of all.
pub record AreNotedTo (x : Tree) (newest below : ℕ) (installed list : List TroveParts) (notes : List NotedJob) : Type 0 where
  pub good : List (List state.Entry)
  pub long : length good ≡ below
  pub holds : HoldsRecords Two x newest installed good list
  pub noted : (count total : ℕ) (rest : List NotedJob) → total ≡ below + count → AreNotes x count (newest - below) list rest → AreNotes x total newest installed (notes ++ rest)

pub one_noted : (x : Tree) (newest below : ℕ) (installed list next : List TroveParts) (notes more : List NotedJob) (es : List state.Entry) (note : NotedJob)
    → AreNotedTo x newest below installed list notes → HoldsRecord Two x (newest - below) list next es → IsNote list next (newest - below) es note → more ≡ notes ++ note ∷ []
    → AreNotedTo x newest (below + 1) installed next more
one_noted x newest below installed list next notes more es note so_far here is pushed = record {
  good = so_far.good ++ es ∷ [];
  long = length-append so_far.good (es ∷ []) ∙ ap (λ (n : ℕ). n + 1) so_far.long;
  holds = records_push Two x newest installed list next so_far.good es so_far.holds
      (subst (λ (n : ℕ). HoldsRecord Two x (newest - n) list next es) (sym so_far.long) here);
  noted = λ count total rest sum are.
      let numbers : newest - (below + 1) ≡ (newest - below) - 1 = omega arith in
      let all = so_far.noted (suc count) total (note ∷ rest) (omega (arith, sum))
      (next, es, here, is, subst (λ (n : ℕ). AreNotes x count n next rest) numbers are) in
      subst (λ (l : List NotedJob). AreNotes x total newest installed l) (sym (append_assoc notes (note ∷ []) rest) ∙ ap (λ (l : List NotedJob). l ++ rest) (sym pushed)) all;
}

pub all_noted : (x : Tree) (newest below count : ℕ) (installed list : List TroveParts) (notes : List NotedJob) → AreNotedTo x newest below installed list notes → count ≡ below
    → AreNotes x count newest installed notes
all_noted x newest below count installed list notes so_far is =
    subst (λ (l : List NotedJob). AreNotes x count newest installed l) (append-nil notes) (so_far.noted 0 count [] (omega (arith, is)) tt)

pub damaged_next : (x : Tree) (newest below count : ℕ) (installed list : List TroveParts) (notes : List NotedJob) (path : Name) → AreNotedTo x newest below installed list notes → below < count
    → path ≡ record_file (newest - below) → HoldsNoRecord Two x (newest - below) list → IsDamagedRecord Two x count newest installed path
damaged_next x newest below count installed list notes path so_far lt is none = record {
  good = so_far.good;
  before = list;
  fewer = let long = so_far.long in omega (arith, long, lt);
  holds = so_far.holds;
  none = subst (λ (n : ℕ). HoldsNoRecord Two x (newest - n) list) (sym so_far.long) none;
  path_is = is ∙ ap (λ (n : ℕ). record_file (newest - n)) (sym so_far.long);
}

-- what is noted of a job that was read
pub noted_as : (after before : List TroveParts) (number : ℕ) (was now : List TroveId) (changes : List state.Entry) (note : NotedJob) → AreChangedIds before after was → AreChangedIds after before now
    → note ≡ record { number = number; before = was; after = now; paths = length changes } → IsNote after before number changes note
noted_as after before number was now changes note was_are now_are is = record {
  number_is = ap (λ (n : NotedJob). n.number) is;
  before_is = subst (AreChangedIds before after) (sym (ap (λ (n : NotedJob). n.before) is)) was_are;
  after_is = subst (AreChangedIds after before) (sym (ap (λ (n : NotedJob). n.after) is)) now_are;
  paths_are = ap (λ (n : NotedJob). n.paths) is;
}
