-- Jobs that were taken back, and the writes that come of them.
use Rattle.std.proofs.Common.{◌≡◌, ◌≢◌, ⊎_elim, inl, inr, ℕ, ◌+◌, ◌-◌, ◌≤◌, Bool, true, false, IsTrue, List, [], ◌∷◌, length, get_or, Option, Some, None, All, Contains, refl, sym, ◌∙◌, ap, subst, arith}
use Rattle.std.specs.Prelude.{◌⊎◌}
use Rattle.std.specs.BTreeMap.{IsOrdered, get}
use Rattle.std.specs.FinMap as tree
use Rattle.std.specs.Cmp.Lexicographic.{slice_cmp}
use Rattle.std.specs.List.Sorted.{IsStrictlySortedBy}
use Rattle.std.specs.Map.{keys_of}
use Rattle.std.specs.Ordering.{nat_cmp}
use Rattle.std.specs.declared.cmp.Ordering.TheVariants.{Less}
use Rattle.std.proofs.lemmas.List.Elements.{All-contains, All-head, All-tail, Contains-get_or}
use Rattle.std.proofs.lemmas.Map.Views.{Contains-from_lookup}
use Rattle.job_targets.specs.cny-base.Reserved.{is_reserved}
use Rattle.job_targets.specs.cny-base.declared.refusal.Refusal.{Refusal}
use Rattle.job_targets.specs.cny-base.declared.refusal.Refusal.TheVariants.{Edited, Parent, StackEmpty, NoJob}
use Rattle.job_targets.specs.cny-base.declared.stop.Stop.{Stop}
use Rattle.job_targets.specs.cny-base.declared.stop.Stop.TheVariants as stop
use Rattle.job_targets.specs.journal-log.declared.put.Put.{Put}
use Rattle.job_targets.specs.journal-log.declared.put.Want.{Want}
use Rattle.job_targets.specs.journal-log.declared.put.Want.TheVariants as want
use Rattle.rollback_stack.specs.Database.{db_below}
use Rattle.rollback_stack.specs.JobReading.{HoldsNoRecord, HoldsRecord, HoldsRecords, IsReadStop}
use Rattle.rollback_stack.specs.JobReading as reading
use Rattle.rollback_stack.specs.declared.undo.Back.{Back}
use Rattle.local_db.specs.declared.db.Db.{Db}
use Rattle.job_targets.specs.Old.{IsDamagedOld}
use Rattle.local_db.specs.Names.{record_file}
use Rattle.local_db.specs.Record as state
use Rattle.local_db.specs.Steps.{IsUnion}
use Rattle.local_db.specs.SystemState.{IsFree}
use Rattle.local_db.specs.declared.format.Format.TheVariants.{Two}
use Rattle.job_targets.specs.tree-disk.Laws.{same_means}
use Rattle.job_targets.proofs.tree-disk.ClearLaws.{or_cases}
use Rattle.job_targets.specs.tree-disk.Tree.{Name, Tree, same_name}
use Rattle.job_targets.specs.trove-stream.declared.parts.TroveParts.{TroveParts}
use Rattle.past_jobs.specs.declared.found.FoundMark.{FoundMark}
use Rattle.past_jobs.specs.Jobs.{AreFound, oldest_with, older, undone_all}
use Rattle.past_jobs.specs.Marks.{IsUndoRefusal, is_path_of, marks_of}
use Rattle.past_jobs.specs.Outcome.{AreUndone, IsUndoKind, IsUndoStop}
use Rattle.past_jobs.specs.Seen.{FoundMarks}
use Rattle.past_jobs.proofs.JobLaws.{found_at, not_found, if_some, number_if}
use Rattle.rollback_stack.specs.Inverse.{AreJobsTo, AreOldNodes, IsAt, IsBackRefusal, IsBackStop, HoldsOld, IsBackTo, IsOldWant, IsOnStack, IsRefusedJob, StaysNothing, no_records}
use Rattle.rollback_stack.specs.Taking.{AreTaken, IsJobsStop, IsNoJob, IsNoJobStop, IsNotTaken, IsTakeStop, StopsAt}
use Rattle.rollback_stack.specs.Wanting.{AreWanted, HasNoRecords, IsFirstDamaged, Wants, puts_in, want_at}
use Rattle.rollback_stack.proofs.Finding.{in_front}
use Rattle.rollback_stack.proofs.Mapped.{all_writes, put_at, put_in, rises_from}
use Rattle.change_rel.proofs.cny-base.OptionValues.{same_some}

-- ---- the paths of jobs

path_free : (es : List state.Entry) (p : Name) → All (λ (e : state.Entry). IsFree e.path) es → is_path_of es p ≡ true → is_reserved p ≡ false
path_free [] p free is = absurd (cc is)
path_free (e ∷ es) p free is = ⊎_elim
    (λ same. ap is_reserved (same_means p e.path same) ∙ (All-head (λ (e : state.Entry). IsFree e.path) e es free).not_reserved)
    (λ rest. path_free es p (All-tail (λ (e : state.Entry). IsFree e.path) e es free) rest)
    (or_cases (same_name p e.path) (is_path_of es p) is)

-- no job has a path that isn't a job's to change
pub jobs_free : (x : Tree) (number : ℕ) (after before : List TroveParts) (jobs : List (List state.Entry)) (p : Name) (n : ℕ) → HoldsRecords Two x number after jobs before → oldest_with number jobs p ≡ Some n → is_reserved p ≡ false
jobs_free x number after before [] p n holds is = absurd (cc is)
jobs_free x number after before (es ∷ more) p n holds is = at (oldest_with (number - 1) more p) refl (λ k there. jobs_free x (number - 1) holds.0 before more p k holds.2 there) is
  where
    at : (o : Option ℕ) → oldest_with (number - 1) more p ≡ o → ((k : ℕ) → oldest_with (number - 1) more p ≡ Some k → is_reserved p ≡ false) → older o (number_if (is_path_of es p) number) ≡ Some n → is_reserved p ≡ false
    at (Some k) there later one = later k there
    at None none later one = path_free es p holds.1.checks.free (if_some (is_path_of es p) number n one)

-- ---- the old nodes

module _ (x : Tree) (newest : ℕ) (jobs : List (List state.Entry)) (found : FoundMarks) (wants : Wants) (are : AreFound newest jobs found) (wanted : AreWanted x found wants) (ordered : IsOrdered (slice_cmp nat_cmp) wants) where
  pub named : (p : Name) (w : Want) → want_at wants p ≡ Some w → (n : ℕ) × (oldest_with newest jobs p ≡ Some n)
  named p w is =
      let of = wanted.each p w is in
      (of.at.number, (found_at newest jobs found (marks_of x) p of.at are of.found_is).0)

  old_of : (q : Put) → Contains (puts_in wants) q → (n : ℕ) × (oldest_with newest jobs q.path ≡ Some n) × IsOldWant x n (undone_all jobs (marks_of x) q.path) q.want
  old_of q in' =
      let of = wanted.each q.path q.want (put_at wants ordered q in') in
      let both = found_at newest jobs found (marks_of x) q.path of.at are of.found_is in
      (of.at.number, both.0, subst (λ m. IsOldWant x of.at.number m q.want) (sym both.1) of.wanted.is)

  stands_of : (q : Put) → Contains (puts_in wants) q → q.want ≡ want.Nothing → tree.get x q.path ≢ None
  stands_of q in' = (wanted.each q.path q.want (put_at wants ordered q in')).wanted.stands

  at_path : (p : Name) (n : ℕ) → oldest_with newest jobs p ≡ Some n → StaysNothing x jobs p ⊎ ((want_ : Want) × Contains (puts_in wants) (record { path = p; want = want_ }))
  at_path p n is = here (get (slice_cmp nat_cmp) found p) refl
    where
      there : (f : FoundMark) → get (slice_cmp nat_cmp) found p ≡ Some f → (w : Option Want) → want_at wants p ≡ w → StaysNothing x jobs p ⊎ ((want_ : Want) × Contains (puts_in wants) (record { path = p; want = want_ }))
      there f has None none =
          let still = wanted.all p f has none in
          inl (record { wanted = (found_at newest jobs found (marks_of x) p f are has).1 ∙ still.0; there = still.1 })
      there f has (Some w) same = inr (w, put_in wants p w same)

      here : (o : Option FoundMark) → get (slice_cmp nat_cmp) found p ≡ o → StaysNothing x jobs p ⊎ ((want_ : Want) × Contains (puts_in wants) (record { path = p; want = want_ }))
      here None none = absurd (cc (is, not_found newest jobs found p are none))
      here (Some f) has = there f has (want_at wants p) refl

  pub old_nodes_are : AreOldNodes x newest jobs (puts_in wants)
  old_nodes_are = record {
    rises = rises_from wants.entries ordered;
    old = λ k d lt. old_of (get_or (puts_in wants) k d) (Contains-get_or (puts_in wants) k d lt);
    stands = λ k d lt. stands_of (get_or (puts_in wants) k d) (Contains-get_or (puts_in wants) k d lt);
    all = at_path;
  }

-- ---- all jobs

pub jobs_to : (x : Tree) (db : Db) (number : ℕ) (list : List TroveParts) (found : FoundMarks) → IsOnStack db number → (taken : AreTaken x db (db.newest - number + 1) list found) → AreJobsTo x db number taken.jobs list
jobs_to x db number list found on_stack taken = record {
  on_stack = on_stack;
  count = let long = taken.long in let made = on_stack.made in omega (arith, long, made);
  holds = taken.holds;
  can = taken.undone.can;
}

module _ (x : Tree) (db : Db) (number : ℕ) (list : List TroveParts) (found : FoundMarks) (wants cleared : Wants) (back : Back) (on_stack : IsOnStack db number)
    (taken : AreTaken x db (db.newest - number + 1) list found) (wanted : AreWanted x found wants) (wants_ordered : IsOrdered (slice_cmp nat_cmp) wants)
    (no_record : HasNoRecords (db.newest - number + 1) db.newest wants cleared) (cleared_ordered : IsOrdered (slice_cmp nat_cmp) cleared)
    (puts : back.puts ≡ puts_in cleared) (below : back.db ≡ db_below db list number) where
  free : (p : Name) (w : Want) → want_at wants p ≡ Some w → is_reserved p ≡ false
  free p w is =
      let by = named x db.newest taken.jobs found wants taken.undone.found_are wanted wants_ordered p w is in
      jobs_free x db.newest db.installed list taken.jobs p by.0 taken.holds by.1

  pub back_to : IsBackTo x db number back
  back_to = record {
    jobs = taken.jobs;
    before = list;
    nodes = puts_in wants;
    jobs_are = jobs_to x db number list found on_stack taken;
    nodes_are = old_nodes_are x db.newest taken.jobs found wants taken.undone.found_are wanted wants_ordered;
    writes = subst (λ (l : List Put). IsUnion l (puts_in wants) (no_records (length taken.jobs) db.newest)) (sym puts)
        (subst (λ (n : ℕ). IsUnion (puts_in cleared) (puts_in wants) (no_records n db.newest)) (sym taken.long)
        (all_writes (db.newest - number + 1) db.newest wants cleared no_record wants_ordered cleared_ordered free));
    db_is = below;
  }

-- ---- stops of one job

pub take_read : (told : Bool) (x : Tree) (number : ℕ) (list : List TroveParts) (found : FoundMarks) (rose later : Type 0) (e : Stop) → (rose → later)
    → IsReadStop told (reading.IsDamagedJob Two x number list) rose e → IsTakeStop told x number list found later e
take_read told x number list found rose later stop.Failed rises is = rises is
take_read told x number list found rose later stop.Memory rises is = tt
take_read told x number list found rose later (stop.Damaged path) rises is = is
take_read told x number list found rose later (stop.Refused why) rises is = absurd is
take_read told x number list found rose later stop.FarFailed rises is = is
take_read told x number list found rose later (stop.FarDamaged path) rises is = is

pub take_refused : (told : Bool) (x y : Tree) (number : ℕ) (after before : List TroveParts) (es changes : List state.Entry) (found : FoundMarks) (rose later : Type 0) (e : Stop) → (rose → later)
    → (IsTrue told → HoldsRecord Two x number after before es) → changes ≡ es → (IsTrue told → y ≡ x) → IsUndoStop told y found changes rose e → IsTakeStop told x number after found later e
take_refused told x y number after before es changes found rose later stop.Failed rises holds same reads is = rises is
take_refused told x y number after before es changes found rose later stop.Memory rises holds same reads is = tt
take_refused told x y number after before es changes found rose later (stop.Refused why) rises holds same reads is = (
  is.0,
  λ tells. record {
    before = before;
    es = es;
    holds = holds tells;
    refused = λ newest jobs undone.
        subst (λ (l : List state.Entry). IsUndoRefusal l (undone_all jobs (marks_of x)) why) same
        (subst (λ (t : Tree). IsUndoRefusal changes (undone_all jobs (marks_of t)) why) (reads tells)
        (is.1 tells newest jobs (subst (λ (t : Tree). AreUndone t newest jobs found) (sym (reads tells)) undone)));
  },
)
take_refused told x y number after before es changes found rose later (stop.Damaged path) rises holds same reads is = absurd is
take_refused told x y number after before es changes found rose later stop.FarFailed rises holds same reads is = is
take_refused told x y number after before es changes found rose later (stop.FarDamaged path) rises holds same reads is = is

-- a stop of the next job
pub take_stops : (told : Bool) (x y : Tree) (db : Db) (number count : ℕ) (list : List TroveParts) (found : FoundMarks) (rose later : Type 0) (e : Stop) → (rose → later) → (IsTrue told → y ≡ x)
    → (IsTrue told → AreTaken x db count list found) → count + number ≤ db.newest → IsTakeStop told y (db.newest - count) list found rose e → IsJobsStop told x db number later e
take_stops told x y db number count list found rose later stop.Failed rises reads taken above is = rises is
take_stops told x y db number count list found rose later stop.Memory rises reads taken above is = tt
take_stops told x y db number count list found rose later (stop.Damaged path) rises reads taken above is = λ tells. record {
  count = count;
  list = list;
  found = found;
  taken = taken tells;
  above = above;
  why = subst (λ (t : Tree). reading.IsDamagedJob Two t (db.newest - count) list path) (reads tells) (is tells);
}
take_stops told x y db number count list found rose later (stop.Refused why) rises reads taken above is = (
  is.0,
  λ tells. record {
    count = count;
    list = list;
    found = found;
    taken = taken tells;
    above = above;
    why = subst (λ (t : Tree). IsNotTaken t (db.newest - count) list found why) (reads tells) (is.1 tells);
  },
)
take_stops told x y db number count list found rose later stop.FarFailed rises reads taken above is = is
take_stops told x y db number count list found rose later (stop.FarDamaged path) rises reads taken above is = is

-- ---- stops of several

number_stop : (told : Bool) (x : Tree) (db : Db) (number : ℕ) (why : Refusal) → IsNoJob db number why → IsBackRefusal told x db number why
number_stop told x db number StackEmpty is = is
number_stop told x db number (NoJob n) is = is
number_stop told x db number _ is = absurd is

pub no_job : (told : Bool) (x : Tree) (db : Db) (number : ℕ) (rose : Type 0) (e : Stop) → IsNoJobStop db number e → IsBackStop told x db number rose e
no_job told x db number rose (stop.Refused why) is = number_stop told x db number why is
no_job told x db number rose stop.Failed is = absurd is
no_job told x db number rose stop.Memory is = tt
no_job told x db number rose (stop.Damaged path) is = absurd is
no_job told x db number rose stop.FarFailed is = is
no_job told x db number rose (stop.FarDamaged path) is = is

stop_at : (x : Tree) (db : Db) (number : ℕ) (Why : ℕ → List TroveParts → FoundMarks → Type 0) → IsOnStack db number → (at : StopsAt x db number Why) → IsAt x db number at.taken.jobs at.list
stop_at x db number Why on_stack at = record {
  on_stack = on_stack;
  holds = at.taken.holds;
  can = at.taken.undone.can;
  above = let long = at.taken.long in let above = at.above in omega (arith, long, above);
}

refused_job : (x : Tree) (db : Db) (number : ℕ) (why : Refusal) → IsOnStack db number → StopsAt x db number (λ n list found. IsNotTaken x n list found why) → IsRefusedJob x db number why
refused_job x db number why on_stack at = record {
  jobs = at.taken.jobs;
  after = at.list;
  before = at.why.before;
  es = at.why.es;
  at = stop_at x db number (λ n list found. IsNotTaken x n list found why) on_stack at;
  holds = subst (λ (n : ℕ). HoldsRecord Two x (db.newest - n) at.list at.why.before at.why.es) (sym at.taken.long) at.why.holds;
  refused = at.why.refused db.newest at.taken.jobs at.taken.undone;
}

jobs_refused : (told : Bool) (x : Tree) (db : Db) (number : ℕ) (why : Refusal) → IsOnStack db number → IsUndoKind why × (IsTrue told → StopsAt x db number (λ n list found. IsNotTaken x n list found why))
    → IsBackRefusal told x db number why
jobs_refused told x db number (Edited path) on_stack is = (tt, λ tells. refused_job x db number (Edited path) on_stack (is.1 tells))
jobs_refused told x db number (Parent path) on_stack is = (tt, λ tells. refused_job x db number (Parent path) on_stack (is.1 tells))
jobs_refused told x db number _ on_stack is = absurd is.0

pub job_stop : (told : Bool) (x : Tree) (db : Db) (number : ℕ) (rose : Type 0) (e : Stop) → IsOnStack db number → IsJobsStop told x db number rose e → IsBackStop told x db number rose e
job_stop told x db number rose stop.Failed on_stack is = is
job_stop told x db number rose stop.Memory on_stack is = tt
job_stop told x db number rose (stop.Refused why) on_stack is = jobs_refused told x db number why on_stack is
job_stop told x db number rose (stop.Damaged path) on_stack is = λ tells.
    let at = is tells in
    inl (record {
      jobs = at.taken.jobs;
      after = at.list;
      at = stop_at x db number (λ n list found. reading.IsDamagedJob Two x n list path) on_stack at;
      none = subst (λ (n : ℕ). HoldsNoRecord Two x (db.newest - n) at.list) (sym at.taken.long) at.why.1;
      path_is = subst (λ (n : ℕ). path ≡ record_file (db.newest - n)) (sym at.taken.long) at.why.0;
    })
job_stop told x db number rose stop.FarFailed on_stack is = is
job_stop told x db number rose (stop.FarDamaged path) on_stack is = is

-- what the jobs found at a path before that of the first content which isn't saved is saved
module _ (x : Tree) (newest : ℕ) (jobs : List (List state.Entry)) (found : FoundMarks) (path : Name) (are : AreFound newest jobs found) (bad : IsFirstDamaged x found path) (q : Name) (n : ℕ)
    (less : slice_cmp nat_cmp q bad.place ≡ Less) (named_ : oldest_with newest jobs q ≡ Some n) where
  held : (f : FoundMark) → get (slice_cmp nat_cmp) found q ≡ Some f → HoldsOld x f.number f.mark
  held f has =
      All-contains (λ (e : Name × FoundMark). HoldsOld x e.1.number e.1.mark) bad.front (q, f) bad.good
      (in_front bad.front bad.rest (bad.place, bad.at) (q, f)
      (subst (λ (es : List (Name × FoundMark)). IsStrictlySortedBy (slice_cmp nat_cmp) (keys_of es)) bad.split are.ordered)
      (subst (λ (es : List (Name × FoundMark)). Contains es (q, f)) bad.split (Contains-from_lookup {eq = same_name} same_means q f found.entries has)) less)

  pub held_before : HoldsOld x n (undone_all jobs (marks_of x) q)
  held_before = at (get (slice_cmp nat_cmp) found q) refl
    where
      at : (o : Option FoundMark) → get (slice_cmp nat_cmp) found q ≡ o → HoldsOld x n (undone_all jobs (marks_of x) q)
      at None none = absurd (cc (named_, not_found newest jobs found q are none))
      at (Some f) has =
          let both = found_at newest jobs found (marks_of x) q f are has in
          subst (λ (k : ℕ). HoldsOld x k (undone_all jobs (marks_of x) q)) (same_some f.number n (sym both.0 ∙ named_))
          (subst (HoldsOld x f.number) (sym both.1) (held f has))

-- a content that isn't saved
pub content_stop : (told : Bool) (x y : Tree) (db : Db) (number : ℕ) (list : List TroveParts) (found : FoundMarks) (rose later : Type 0) (e : Stop) → IsOnStack db number → (IsTrue told → AreTaken x db (db.newest - number + 1) list found)
    → (rose → later) → (IsTrue told → y ≡ x) → IsReadStop told (IsFirstDamaged y found) rose e → IsBackStop told x db number later e
content_stop told x y db number list found rose later stop.Failed on_stack taken rises reads is = rises is
content_stop told x y db number list found rose later stop.Memory on_stack taken rises reads is = tt
content_stop told x y db number list found rose later (stop.Damaged path) on_stack taken rises reads is = λ tells.
    let t = taken tells in
    let here = subst (λ (t : Tree). IsFirstDamaged t found path) (reads tells) (is tells) in
    let both = found_at db.newest t.jobs found (marks_of x) here.place here.at t.undone.found_are here.among in
    inr (record {
      content = record {
        jobs = t.jobs;
        before = list;
        jobs_are = jobs_to x db number list found on_stack t;
        place = here.place;
        job = here.at.number;
        named = both.0;
        damaged = subst (λ m. IsDamagedOld x here.at.number m path) (sym both.1) here.damaged;
      };
      first = λ q n less named_. held_before x db.newest t.jobs found path t.undone.found_are here q n less named_;
    })
content_stop told x y db number list found rose later (stop.Refused why) on_stack taken rises reads is = absurd is
content_stop told x y db number list found rose later stop.FarFailed on_stack taken rises reads is = is
content_stop told x y db number list found rose later (stop.FarDamaged path) on_stack taken rises reads is = is
