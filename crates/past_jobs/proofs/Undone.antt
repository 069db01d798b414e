-- Fingerprints while jobs are taken back, one after the other.
use Rattle.std.proofs.Common.{◌≡◌, ⊎_elim, ℕ, ◌+◌, ◌-◌, ◌<◌, get_or, drop, Bool, true, false, cond, ◌||◌, List, [], ◌∷◌, ◌++◌, length, Option, Some, is_some, refl, sym, ◌∙◌, ap, subst}
use Rattle.std.proofs.lemmas.Bool.{cases_Bool}
use Rattle.std.proofs.lemmas.List.{at_drop_more}
use Rattle.std.proofs.lemmas.List.Elements.{All-from_recursion}
use Rattle.std.specs.BTreeMap.{IsOrdered, get}
use Rattle.std.specs.Cmp.Lexicographic.{slice_cmp}
use Rattle.std.specs.List.{AllByRecursion}
use Rattle.std.specs.List.Sorted.{IsStrictlySortedBy}
use Rattle.std.specs.Ordering.{nat_cmp}
use Rattle.std.specs.declared.cmp.Ordering.TheVariants.{Less}
use Rattle.change_rel.specs.cny-base.Path.{is_path}
use Rattle.local_db.specs.tree-disk.Laws.{same_means}
use Rattle.local_db.proofs.tree-disk.Laws.{same_itself}
use Rattle.local_db.specs.tree-disk.Tree.{Name, same_name}
use Rattle.tree_scan.specs.declared.mark.Mark.TheVariants.{Nothing}
use Rattle.local_db.specs.Record.{Entry, entry_cmp}
use Rattle.past_jobs.specs.declared.found.FoundMark.{FoundMark}
use Rattle.past_jobs.specs.Marks.{Marks, undone, is_path_of}
use Rattle.past_jobs.specs.Jobs.{AreFound, found_mark, noted, noted_all, oldest_with, undone_all}
use Rattle.past_jobs.proofs.JobLaws.{oldest_more, undone_more, undone_other}
use Rattle.past_jobs.specs.Seen.{FoundMarks}
use Rattle.conflict_plan.proofs.Order.{less_other, same_sym}
use Rattle.tree_scan.proofs.tree-disk.Order.{less_differs as more_other}

-- ---- one job

-- a path in front of all of them is none of theirs
pub none_behind : (e : Entry) (es : List Entry) → AllByRecursion (λ y. entry_cmp e y ≡ Less) es → is_path_of es e.path ≡ false
none_behind e [] behind = refl
none_behind e (y ∷ es) behind = ap (λ b. b || is_path_of es e.path) (less_other e.path y.path behind.0) ∙ none_behind e es behind.1

-- an entry of rising ones: its path is one of theirs, and there the job found what it tells
pub record IsOf (es : List Entry) (e : Entry) : Type 0 where
  pub own : is_path_of es e.path ≡ true
  pub found : (m : Marks) → undone es m e.path ≡ e.was

of_more : (e y : Entry) (es : List Entry) → entry_cmp e y ≡ Less → IsOf es y → IsOf (e ∷ es) y
of_more e y es less is = record {
  own = ap (λ b. b || is_path_of es y.path) (more_other e.path y.path less) ∙ is.own;
  found = λ m. ap (λ b. cond b e.was (undone es m y.path)) (more_other e.path y.path less) ∙ is.found m;
}

all_of_more : (e : Entry) (es list : List Entry) → AllByRecursion (λ y. entry_cmp e y ≡ Less) list → AllByRecursion (IsOf es) list → AllByRecursion (IsOf (e ∷ es)) list
all_of_more e es [] behind all = tt
all_of_more e es (y ∷ list) behind all = (of_more e y es behind.0 all.0, all_of_more e es list behind.1 all.1)

pub each_of : (es : List Entry) → IsStrictlySortedBy entry_cmp es → AllByRecursion (IsOf es) es
unfolding IsStrictlySortedBy
each_of [] rising = tt
each_of (e ∷ es) rising = (
  record {
    own = ap (λ b. b || is_path_of es e.path) (same_itself e.path);
    found = λ m. ap (λ b. cond b e.was (undone es m e.path)) (same_itself e.path);
  },
  all_of_more e es es rising.0 (each_of es rising.1),
)

-- what the job found at the path of its entry at a place
pub undone_at : (es : List Entry) (p : Name) (m : Marks) (k : ℕ) (d : Entry) → IsStrictlySortedBy entry_cmp es → k < length es → ((d : Entry) → (get_or es k d).path ≡ p) → undone es m p ≡ (get_or es k d).was
undone_at es p m k d rising lt here = ap (undone es m) (sym (here d)) ∙ (All-from_recursion (IsOf es) es (each_of es rising) k d lt).found m

-- the entry at a path of theirs
pub at_path : (P : Entry → Type 0) (es : List Entry) (q : Name) → AllByRecursion P es → is_path_of es q ≡ true → (e : Entry) × (e.path ≡ q) × P e
at_path P [] q all own = absurd (cc own)
at_path P (e ∷ es) q all own = at (same_name q e.path) refl (at_path P es q all.1) own
  where
    at : (b : Bool) → same_name q e.path ≡ b → (is_path_of es q ≡ true → (e : Entry) × (e.path ≡ q) × P e) → (b || is_path_of es q) ≡ true → (e : Entry) × (e.path ≡ q) × P e
    at true same later own = (e, sym (same_means q e.path same), all.0)
    at false other later own = later own

-- ---- the map with one more job

pub noted_same : (number : ℕ) (es : List Entry) (f g : Name → Option FoundMark) (p : Name) → f p ≡ g p → noted_all number es f p ≡ noted_all number es g p
noted_same number [] f g p same = same
noted_same number (e ∷ es) f g p same = noted_same number es (noted number e f) (noted number e g) p (ap (λ o. cond (same_name e.path p) (Some (record { number = number; mark = e.was })) o) same)

pub dropped : (list : List Entry) (k : ℕ) (x : Entry) → k < length list → x ≡ get_or list k x → drop k list ≡ x ∷ drop (k + 1) list
dropped list k x lt is = at_drop_more (λ (l : List Entry). l) list k x lt ∙ ap (λ (e : Entry). e ∷ drop (k + 1) list) (sym is)

-- one entry of the loop
pub noted_step : (number : ℕ) (list : List Entry) (k : ℕ) (x : Entry) (f g : Name → Option FoundMark) (p : Name) → k < length list → x ≡ get_or list k x → g p ≡ noted number x f p
    → noted_all number (drop (k + 1) list) g p ≡ noted_all number (drop k list) f p
noted_step number list k x f g p lt is same =
    noted_same number (drop (k + 1) list) g (noted number x f) p same ∙ sym (ap (λ (l : List Entry). noted_all number l f p) (dropped list k x lt is))

pub all_step : (P : Entry → Type 0) (list : List Entry) (k : ℕ) (x : Entry) → k < length list → x ≡ get_or list k x → P x → (AllByRecursion P (drop k list) → AllByRecursion P list) → AllByRecursion P (drop (k + 1) list) → AllByRecursion P list
all_step P list k x lt is here so_far rest = so_far (subst (AllByRecursion P) (sym (dropped list k x lt is)) (here, rest))

other_way : (p q : Name) (b : Bool) → same_name p q ≡ b → same_name q p ≡ b
other_way p q true same = same_sym p q same
other_way p q false other = ⊎_elim (λ same. absurd (cc (same_sym q p same, other))) (λ o. o) (cases_Bool (same_name q p))

noted_is : (number : ℕ) (es : List Entry) (f : Name → Option FoundMark) (m : Marks) (p : Name) → IsStrictlySortedBy entry_cmp es
    → noted_all number es f p ≡ cond (is_path_of es p) (Some (record { number = number; mark = undone es m p })) (f p)
unfolding IsStrictlySortedBy
noted_is number [] f m p rising = refl
noted_is number (e ∷ es) f m p rising = noted_is number es (noted number e f) m p rising.1 ∙ at (same_name p e.path) refl
  where
    own_none : same_name p e.path ≡ true → is_path_of es p ≡ false
    own_none same = ap (is_path_of es) (same_means p e.path same) ∙ none_behind e es rising.0

    at : (b : Bool) → same_name p e.path ≡ b
        → cond (is_path_of es p) (Some (record { number = number; mark = undone es m p })) (cond (same_name e.path p) (Some (record { number = number; mark = e.was })) (f p))
        ≡ cond (b || is_path_of es p) (Some (record { number = number; mark = cond b e.was (undone es m p) })) (f p)
    at true same =
        ap (λ c. cond c (Some (record { number = number; mark = undone es m p })) (cond (same_name e.path p) (Some (record { number = number; mark = e.was })) (f p))) (own_none same)
        ∙ ap (λ c. cond c (Some (record { number = number; mark = e.was })) (f p)) (other_way p e.path true same)
    at false other = ap (λ c. cond (is_path_of es p) (Some (record { number = number; mark = undone es m p })) (cond c (Some (record { number = number; mark = e.was })) (f p))) (other_way p e.path false other)

module _ (newest number : ℕ) (jobs : List (List Entry)) (es : List Entry) (old new : FoundMarks) (is : number ≡ newest - length jobs) (rising : IsStrictlySortedBy entry_cmp es) (are : AreFound newest jobs old)
    (gives : (p : Name) → get (slice_cmp nat_cmp) new p ≡ noted_all number es (get (slice_cmp nat_cmp) old) p) (ordered : IsOrdered (slice_cmp nat_cmp) new) (paths : AllByRecursion (λ (e : Entry). is_path e.path ≡ true) es) where
  given : (p : Name) → get (slice_cmp nat_cmp) new p ≡ cond (is_path_of es p) (Some (record { number = number; mark = undone es (undone_all jobs (λ q. Nothing)) p })) (get (slice_cmp nat_cmp) old p)
  given p = gives p ∙ noted_is number es (get (slice_cmp nat_cmp) old) (undone_all jobs (λ q. Nothing)) p rising

  found_more : (p : Name) (b : Bool) → is_path_of es p ≡ b → cond b (Some (record { number = number; mark = undone es (undone_all jobs (λ q. Nothing)) p })) (get (slice_cmp nat_cmp) old p)
      ≡ found_mark (cond b (Some (newest - length jobs)) (oldest_with newest jobs p)) (undone es (undone_all jobs (λ q. Nothing)) p)
  found_more p true own = ap (λ (n : ℕ). Some (record { number = n; mark = undone es (undone_all jobs (λ q. Nothing)) p })) is
  found_more p false other = are.gives p ∙ ap (found_mark (oldest_with newest jobs p)) (sym (undone_other es (undone_all jobs (λ q. Nothing)) p other))

  path_more : (p : Name) (b : Bool) → is_path_of es p ≡ b → is_some (cond b (Some (record { number = number; mark = undone es (undone_all jobs (λ q. Nothing)) p })) (get (slice_cmp nat_cmp) old p)) ≡ true → is_path p ≡ true
  path_more p true own there =
      let e = at_path (λ e. is_path e.path ≡ true) es p paths own in
      subst (λ q. is_path q ≡ true) e.1 e.2
  path_more p false other there = are.paths p there

  pub found_next : AreFound newest (jobs ++ es ∷ []) new
  found_next = record {
    gives = λ p. given p ∙ found_more p (is_path_of es p) refl
        ∙ ap (λ o. found_mark o (undone es (undone_all jobs (λ q. Nothing)) p)) (sym (oldest_more newest jobs es p))
        ∙ ap (found_mark (oldest_with newest (jobs ++ es ∷ []) p)) (sym (undone_more jobs es (λ q. Nothing) p));
    paths = λ p there. path_more p (is_path_of es p) refl (ap is_some (sym (given p)) ∙ there);
    ordered = ordered;
  }
