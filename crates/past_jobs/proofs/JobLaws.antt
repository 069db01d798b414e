-- Laws of jobs that are taken back one after the other.
use Rattle.std.specs.Prelude.{◌≡◌, ℕ, ◌-◌, Bool, true, false, ◌||◌, List, [], ◌∷◌, ◌++◌, length, Option, Some, None, is_some, refl}
use Rattle.std.proofs.Common.{cond, sym, ◌∙◌, ap, subst, arith}
use Rattle.std.specs.BTreeMap.{get}
use Rattle.std.specs.Cmp.Lexicographic.{slice_cmp}
use Rattle.std.specs.List.Sorted.{IsStrictlySortedBy}
use Rattle.std.specs.Map.{keys_of, lookup}
use Rattle.std.specs.Ordering.{nat_cmp}
use Rattle.local_db.specs.tree-disk.Tree.{Name, Tree, same_name}
use Rattle.tree_scan.specs.Marks.{fingerprint_at}
use Rattle.tree_scan.specs.declared.mark.Mark.TheVariants.{Nothing}
use Rattle.local_db.specs.Record.{Entry}
use Rattle.past_jobs.specs.declared.found.FoundMark.{FoundMark}
use Rattle.past_jobs.specs.Marks.{CanUndo, Marks, marks_of, undone, is_path_of}
use Rattle.past_jobs.specs.Jobs.{AreFound, CanUndoAll, found_mark, older, oldest_with, undone_all}
use Rattle.past_jobs.specs.Outcome.{AreUndone, CanUndoNext}
use Rattle.past_jobs.specs.Seen.{FoundMarks, mark_or, mark_seen}

-- ---- one job

-- what is undone at a path depends on the fingerprint there alone
pub undone_same : (es : List Entry) (m n : Marks) (p : Name) → m p ≡ n p → undone es m p ≡ undone es n p
undone_same [] m n p same = same
undone_same (e ∷ es) m n p same = ap (λ x. cond (same_name p e.path) e.was x) (undone_same es m n p same)

-- at a path of the job not even on that
pub undone_own : (es : List Entry) (m n : Marks) (p : Name) → is_path_of es p ≡ true → undone es m p ≡ undone es n p
undone_own [] m n p own = absurd (cc own)
undone_own (e ∷ es) m n p own = at (same_name p e.path) (undone_own es m n p) own
  where
    at : (b : Bool) → (is_path_of es p ≡ true → undone es m p ≡ undone es n p) → (b || is_path_of es p) ≡ true → cond b e.was (undone es m p) ≡ cond b e.was (undone es n p)
    at true later own = refl
    at false later own = later own

pub undone_other : (es : List Entry) (m : Marks) (p : Name) → is_path_of es p ≡ false → undone es m p ≡ m p
undone_other [] m p other = refl
undone_other (e ∷ es) m p other = at (same_name p e.path) (undone_other es m p) other
  where
    at : (b : Bool) → (is_path_of es p ≡ false → undone es m p ≡ m p) → (b || is_path_of es p) ≡ false → cond b e.was (undone es m p) ≡ m p
    at true later other = absurd (cc other)
    at false later other = later other

-- ---- several jobs

pub all_same : (jobs : List (List Entry)) (m n : Marks) (p : Name) → m p ≡ n p → undone_all jobs m p ≡ undone_all jobs n p
all_same [] m n p same = same
all_same (es ∷ more) m n p same = all_same more (undone es m) (undone es n) p (undone_same es m n p same)

older_none : (o one : Option ℕ) → older o one ≡ None → (o ≡ None) × (one ≡ None)
older_none None one is = (refl, is)
older_none (Some n) one is = absurd (cc is)

abbrev pub number_if : Bool → ℕ → Option ℕ
number_if b number = cond b (Some number) None

if_none : (b : Bool) (number : ℕ) → number_if b number ≡ None → b ≡ false
if_none true number is = absurd (cc is)
if_none false number is = refl

pub if_some : (b : Bool) (number k : ℕ) → number_if b number ≡ Some k → b ≡ true
if_some true number k is = refl
if_some false number k is = absurd (cc is)

-- where no job has the path
pub none_with : (number : ℕ) (jobs : List (List Entry)) (m : Marks) (p : Name) → oldest_with number jobs p ≡ None → undone_all jobs m p ≡ m p
none_with number [] m p none = refl
none_with number (es ∷ more) m p none =
    let both = older_none (oldest_with (number - 1) more p) (number_if (is_path_of es p) number) none in
    none_with (number - 1) more (undone es m) p both.0 ∙ undone_other es m p (if_none (is_path_of es p) number both.1)

-- where one has
pub some_with : (number : ℕ) (jobs : List (List Entry)) (m n : Marks) (p : Name) (k : ℕ) → oldest_with number jobs p ≡ Some k → undone_all jobs m p ≡ undone_all jobs n p
some_with number [] m n p k is = absurd (cc is)
some_with number (es ∷ more) m n p k is = at (oldest_with (number - 1) more p) refl (some_with (number - 1) more (undone es m) (undone es n) p) is
  where
    at : (o : Option ℕ) → oldest_with (number - 1) more p ≡ o → ((j : ℕ) → oldest_with (number - 1) more p ≡ Some j → undone_all more (undone es m) p ≡ undone_all more (undone es n) p)
        → older o (number_if (is_path_of es p) number) ≡ Some k → undone_all more (undone es m) p ≡ undone_all more (undone es n) p
    at (Some j) there later is = later j there
    at None none later is = all_same more (undone es m) (undone es n) p (undone_own es m n p (if_some (is_path_of es p) number k is))

-- the map and the tree tell the fingerprints after the jobs
pub seen_is : (newest : ℕ) (jobs : List (List Entry)) (found : FoundMarks) (tree : Tree) → AreFound newest jobs found → (p : Name) → mark_seen found tree p ≡ undone_all jobs (marks_of tree) p
seen_is newest jobs found tree are p = ap (λ o. mark_or o (fingerprint_at tree p)) (are.gives p) ∙ at (oldest_with newest jobs p) refl
  where
    at : (o : Option ℕ) → oldest_with newest jobs p ≡ o → mark_or (found_mark o (undone_all jobs (λ q. Nothing) p)) (fingerprint_at tree p) ≡ undone_all jobs (marks_of tree) p
    at None none = sym (none_with newest jobs (marks_of tree) p none)
    at (Some k) there = some_with newest jobs (λ q. Nothing) (marks_of tree) p k there

-- ---- one more job

with_more : (b : Bool) (n m : ℕ) (o one : Option ℕ) → m ≡ n → older (cond b (Some m) o) one ≡ cond b (Some n) (older o one)
with_more true n m o one is = ap Some is
with_more false n m o one is = refl

pub oldest_more : (number : ℕ) (jobs : List (List Entry)) (es : List Entry) (p : Name) → oldest_with number (jobs ++ es ∷ []) p ≡ cond (is_path_of es p) (Some (number - length jobs)) (oldest_with number jobs p)
oldest_more number [] es p =
    let e : number ≡ number - 0 = omega arith in
    ap (λ (n : ℕ). number_if (is_path_of es p) n) e
oldest_more number (j ∷ jobs) es p =
    let e : number - 1 - length jobs ≡ number - length (j ∷ jobs) = omega arith in
    ap (λ o. older o (number_if (is_path_of j p) number)) (oldest_more (number - 1) jobs es p)
    ∙ with_more (is_path_of es p) (number - length (j ∷ jobs)) (number - 1 - length jobs) (oldest_with (number - 1) jobs p) (number_if (is_path_of j p) number) e

pub undone_more : (jobs : List (List Entry)) (es : List Entry) (m : Marks) (p : Name) → undone_all (jobs ++ es ∷ []) m p ≡ undone es (undone_all jobs m) p
undone_more [] es m p = refl
undone_more (j ∷ jobs) es m p = undone_more jobs es (undone j m) p

-- ---- the map of no jobs, and of one more

sorted_none : IsStrictlySortedBy (slice_cmp nat_cmp) []
unfolding IsStrictlySortedBy
sorted_none = tt

-- a map without entries is that of no jobs
pub none_found : (newest : ℕ) (found : FoundMarks) → found.entries ≡ [] → AreFound newest [] found
none_found newest found none = record {
  gives = λ p. nothing p;
  paths = λ p there. absurd (cc (ap is_some (nothing p), there));
  ordered = subst (λ (es : List (Name × FoundMark)). IsStrictlySortedBy (slice_cmp nat_cmp) (keys_of es)) (sym none) sorted_none;
}
  where
    nothing : (p : Name) → get (slice_cmp nat_cmp) found p ≡ None
    nothing p = ap (λ (es : List (Name × FoundMark)). lookup (same_name p) es) none

pub can_more : (jobs : List (List Entry)) (es : List Entry) (m : Marks) → CanUndoAll jobs m → CanUndo es (undone_all jobs m) → CanUndoAll (jobs ++ es ∷ []) m
can_more [] es m can next = (next, tt)
can_more (j ∷ jobs) es m can next = (can.0, can_more jobs es (undone j m) can.1 next)

-- one more job that can be taken back
pub undone_next : (x : Tree) (newest : ℕ) (jobs : List (List Entry)) (es : List Entry) (old new : FoundMarks) → AreUndone x newest jobs old → CanUndoNext x old es → AreFound newest (jobs ++ es ∷ []) new
    → AreUndone x newest (jobs ++ es ∷ []) new
undone_next x newest jobs es old new are next found = record { found_are = found; can = can_more jobs es (marks_of x) are.can (next newest jobs are) }

-- ---- what the map has at a path

-- the number of the oldest job that has the path, and what stands there after the jobs
pub found_at : (newest : ℕ) (jobs : List (List Entry)) (found : FoundMarks) (m : Marks) (p : Name) (f : FoundMark) → AreFound newest jobs found → get (slice_cmp nat_cmp) found p ≡ Some f
    → (oldest_with newest jobs p ≡ Some f.number) × (undone_all jobs m p ≡ f.mark)
found_at newest jobs found m p f are is = at (oldest_with newest jobs p) refl (sym (are.gives p) ∙ is)
  where
    at : (o : Option ℕ) → oldest_with newest jobs p ≡ o → found_mark o (undone_all jobs (λ q. Nothing) p) ≡ Some f → (oldest_with newest jobs p ≡ Some f.number) × (undone_all jobs m p ≡ f.mark)
    at None none same = absurd (cc same)
    at (Some k) there same =
        let one : f ≡ record { number = k; mark = undone_all jobs (λ q. Nothing) p } = cc same in
        (there ∙ ap (λ (g : FoundMark). Some g.number) (sym one), some_with newest jobs m (λ q. Nothing) p k there ∙ ap (λ (g : FoundMark). g.mark) (sym one))

-- no job has the path
pub not_found : (newest : ℕ) (jobs : List (List Entry)) (found : FoundMarks) (p : Name) → AreFound newest jobs found → get (slice_cmp nat_cmp) found p ≡ None → oldest_with newest jobs p ≡ None
not_found newest jobs found p are none = at (oldest_with newest jobs p) refl (sym (are.gives p) ∙ none)
  where
    at : (o : Option ℕ) → oldest_with newest jobs p ≡ o → found_mark o (undone_all jobs (λ q. Nothing) p) ≡ None → oldest_with newest jobs p ≡ None
    at None is same = is
    at (Some k) is same = absurd (cc same)
