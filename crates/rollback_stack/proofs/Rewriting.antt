-- Records of jobs that are read in format 1 and written in format 2.
use Rattle.std.proofs.Common.{◌≡◌, ⊎_elim, inl, inr, ℕ, suc, ◌+◌, ◌-◌, ◌<◌, ◌≤◌, Bool, true, false, cond, List, [], ◌∷◌, ◌++◌, length, get_or, Option, Some, None, All, Contains, refl, sym, ◌∙◌, ap, subst, arith, append_assoc, length-append}
use Rattle.std.specs.Prelude.{◌⊎◌}
use Rattle.std.specs.BTreeMap.{IsOrdered}
use Rattle.std.specs.Cmp.Lexicographic.{slice_cmp}
use Rattle.std.specs.Ordering.{nat_cmp}
use Rattle.std.proofs.lemmas.Bool.{cases_Bool}
use Rattle.std.proofs.lemmas.List.{append-nil}
use Rattle.std.proofs.lemmas.List.Elements.{All-nil, All-cons, All-push, Contains-append_left, Contains-get_or, Contains-push}
use Rattle.job_targets.specs.cny-base.declared.limits.TheConstants.{JOBS_LIMIT}
use Rattle.rollback_stack.proofs.Mapping.{implied_both}
use Rattle.rollback_stack.specs.JobReading.{HoldsNoRecord, HoldsRecord, HoldsRecords, IsDamagedJob, IsDamagedRecord}
use Rattle.job_targets.specs.journal-log.declared.put.Put.{Put}
use Rattle.job_targets.specs.journal-log.declared.put.Want.{Want}
use Rattle.job_targets.specs.journal-log.declared.put.Want.TheVariants as want
use Rattle.local_db.specs.declared.db.Db.{Db}
use Rattle.local_db.proofs.Places.{job_not_database, job_place, one_job, record_is_job}
use Rattle.local_db.proofs.Systems.{four_bytes}
use Rattle.local_db.specs.Names.{database, is_job_place, record_file}
use Rattle.local_db.specs.Record as state
use Rattle.local_db.specs.Steps.{IsUnion, record_put}
use Rattle.local_db.specs.Formats.{AreEnds, database_bytes}
use Rattle.local_db.specs.declared.format.Format.TheVariants.{One, Two}
use Rattle.job_targets.specs.tree-disk.Laws.{same_means}
use Rattle.job_targets.proofs.tree-disk.Laws.{same_itself}
use Rattle.job_targets.specs.tree-disk.Tree.{Name, Tree, same_name}
use Rattle.job_targets.specs.trove-stream.declared.parts.TroveParts.{TroveParts}
use Rattle.rollback_stack.specs.Migrated.{AreAdded, AreAllRewritten, AreRewritten, AreWritesOf, HasFile, HasRewritten}
use Rattle.rollback_stack.specs.Wanting.{Wants, puts_in, want_at}
use Rattle.rollback_stack.proofs.Finding.{nothing_wanted}
use Rattle.rollback_stack.proofs.Mapped.{put_at, put_in, rises_from}
use Rattle.rollback_stack.proofs.Noting.{records_push}
use Rattle.job_record.proofs.ByLists.{implied}
use Rattle.change_rel.proofs.cny-base.Lists.{contains_first}
use Rattle.change_rel.proofs.cny-base.OptionValues.{same_some}

-- ---- names of records

pub records_differ : (m n : ℕ) → n < m → m ≤ JOBS_LIMIT → same_name (record_file n) (record_file m) ≡ false
records_differ m n less fits = ⊎_elim
    (λ same.
    let there : is_job_place n (record_file m) ≡ true = ap (is_job_place n) (sym (same_means (record_file n) (record_file m) same)) ∙ job_place n (record_file n) (record_is_job n) in
    let is : m ≡ n = one_job m n (record_file m) (four_bytes m fits) (four_bytes n (omega (arith, less, fits))) (job_place m (record_file m) (record_is_job m)) there in
    absurd (omega (arith, is, less)))
    (λ other. other)
    (cases_Bool (same_name (record_file n) (record_file m)))

pub record_not_database : (n : ℕ) → same_name (record_file n) database ≡ false
record_not_database n = job_not_database n (record_file n) (record_is_job n)

-- ---- numbers

pub least : (oldest newest : ℕ) → AreEnds oldest newest → (newest ≡ 0 → ⊥) → 1 ≤ oldest
least oldest newest ends some = ⊎_elim (λ none. absurd (some none.1)) (λ job. job.0) ends

pub most : (oldest newest : ℕ) → AreEnds oldest newest → newest ≤ JOBS_LIMIT
most oldest newest ends = ⊎_elim (λ none. let limit : JOBS_LIMIT ≡ 4294967295 = refl in omega (arith, limit, none.1)) (λ job. job.3) ends

-- ---- the records so far

-- a record of a number above this one
pub record IsAbove (newest number : ℕ) (r : Put) : Type 0 where
  pub number_of : ℕ
  pub path_is : r.path ≡ record_file number_of
  pub above : number < number_of
  pub most : number_of ≤ newest

pub record AreRewrittenTo (x : Tree) (newest below : ℕ) (installed list : List TroveParts) (old new : Wants) : Type 0 where
  pub good : List (List state.Entry)
  pub long : length good ≡ below
  pub holds : HoldsRecords One x newest installed good list
  pub records : List Put
  pub rewritten : (count total : ℕ) (rest : List Put) → total ≡ below + count → AreRewritten x count (newest - below) list rest → AreRewritten x total newest installed (records ++ rest)
  pub added : AreAdded records old new
  pub numbers : All (IsAbove newest (newest - below)) records

pub none_added : (wants : Wants) → AreAdded [] wants wants
none_added wants = record { each = λ p w is. inl is; all = All-nil (λ (r : Put). want_at wants r.path ≡ Some r.want); kept = refl }

pub none_rewritten : (x : Tree) (newest : ℕ) (installed list : List TroveParts) (wants : Wants) → list ≡ installed → AreRewrittenTo x newest 0 installed list wants wants
none_rewritten x newest installed list wants same = record {
  good = [];
  long = refl;
  holds = same;
  records = [];
  rewritten = λ count total rest is are.
      let counts : count ≡ total = omega (arith, is) in
      let numbers : newest - 0 ≡ newest = omega arith in
      subst (λ (n : ℕ). AreRewritten x n newest installed rest) counts
      (subst (λ (n : ℕ). AreRewritten x count n installed rest) numbers
      (subst (λ (l : List TroveParts). AreRewritten x count (newest - 0) l rest) same are));
  added = none_added wants;
  numbers = All-nil (IsAbove newest (newest - 0));
}

if_other : (b : Bool) (w o : Option Want) → b ≡ false → cond b w o ≡ o
if_other true w o is = absurd (cc is)
if_other false w o is = refl

if_own : (b : Bool) (w o : Option Want) → b ≡ true → cond b w o ≡ w
if_own true w o is = refl
if_own false w o is = absurd (cc is)

module _ (x : Tree) (newest below : ℕ) (installed list next : List TroveParts) (first old new : Wants) (so_far : AreRewrittenTo x newest below installed list first old) (step : HasRewritten x (newest - below) list next old new)
    (fits : newest ≤ JOBS_LIMIT) (some : below < newest) where
  put : Put
  put = record_put (newest - below) 420 step.bytes

  at_put : want_at new (record_file (newest - below)) ≡ Some (want.File 420 step.bytes)
  at_put = step.wanted (record_file (newest - below)) ∙ if_own (same_name (record_file (newest - below)) (record_file (newest - below))) (Some (want.File 420 step.bytes)) (want_at old (record_file (newest - below))) (same_itself (record_file (newest - below)))

  elsewhere : (p : Name) → same_name (record_file (newest - below)) p ≡ false → want_at new p ≡ want_at old p
  elsewhere p other = step.wanted p ∙ if_other (same_name (record_file (newest - below)) p) (Some (want.File 420 step.bytes)) (want_at old p) other

  each : (p : Name) (w : Want) → want_at new p ≡ Some w → (want_at first p ≡ Some w) ⊎ Contains (so_far.records ++ put ∷ []) (record { path = p; want = w })
  unfolding put
  each p w is = ⊎_elim
      (λ same.
      let here : want.File 420 step.bytes ≡ w = same_some (want.File 420 step.bytes) w (sym at_put ∙ ap (want_at new) (same_means (record_file (newest - below)) p same) ∙ is) in
      inr (subst (λ (v : Want). Contains (so_far.records ++ put ∷ []) (record { path = p; want = v })) here
      (subst (λ (r : Name). Contains (so_far.records ++ put ∷ []) (record { path = r; want = want.File 420 step.bytes })) (same_means (record_file (newest - below)) p same)
      (Contains-push so_far.records put))))
      (λ other. ⊎_elim
      (λ old_. inl old_)
      (λ in'. inr (Contains-append_left so_far.records (put ∷ []) (record { path = p; want = w }) in'))
      (so_far.added.each p w (sym (elsewhere p other) ∙ is)))
      (cases_Bool (same_name (record_file (newest - below)) p))

  stays_put : (r : Put) → IsAbove newest (newest - below) r → want_at old r.path ≡ Some r.want → want_at new r.path ≡ Some r.want
  stays_put r is there =
      let high = is.above in
      let most = is.most in
      elsewhere r.path (ap (same_name (record_file (newest - below))) is.path_is ∙ records_differ is.number_of (newest - below) high (omega (arith, most, fits))) ∙ there

  higher : (r : Put) → IsAbove newest (newest - below) r → IsAbove newest (newest - (below + 1)) r
  higher r is = record { number_of = is.number_of; path_is = is.path_is; above = let high = is.above in omega (arith, high); most = is.most }

  pub one_rewritten : AreRewrittenTo x newest (below + 1) installed next first new
  unfolding put
  one_rewritten = record {
    good = so_far.good ++ step.es ∷ [];
    long = length-append so_far.good (step.es ∷ []) ∙ ap (λ (n : ℕ). n + 1) so_far.long;
    holds = records_push One x newest installed list next so_far.good step.es so_far.holds
        (subst (λ (n : ℕ). HoldsRecord One x (newest - n) list next step.es) (sym so_far.long) step.holds);
    records = so_far.records ++ put ∷ [];
    rewritten = λ count total rest sum are.
        let numbers : newest - (below + 1) ≡ (newest - below) - 1 = omega arith in
        let all = so_far.rewritten (suc count) total (put ∷ rest) (omega (arith, sum))
        (next, step.es, 420, step.bytes, step.holds, step.text, refl, subst (λ (n : ℕ). AreRewritten x count n next rest) numbers are) in
        subst (λ (l : List Put). AreRewritten x total newest installed l) (sym (append_assoc so_far.records (put ∷ []) rest)) all;
    added = record {
      each = each;
      all = All-push (λ (r : Put). want_at new r.path ≡ Some r.want) so_far.records put
          (implied_both (IsAbove newest (newest - below)) (λ (r : Put). want_at old r.path ≡ Some r.want) (λ (r : Put). want_at new r.path ≡ Some r.want) so_far.records stays_put so_far.numbers so_far.added.all) at_put;
      kept = elsewhere database (record_not_database (newest - below)) ∙ so_far.added.kept;
    };
    numbers = All-push (IsAbove newest (newest - (below + 1))) so_far.records put
        (implied (IsAbove newest (newest - below)) (IsAbove newest (newest - (below + 1))) so_far.records higher so_far.numbers)
        (record { number_of = newest - below; path_is = refl; above = omega (arith, some); most = omega arith });
  }

pub all_rewritten : (x : Tree) (newest below count : ℕ) (installed list : List TroveParts) (old new : Wants) → (so_far : AreRewrittenTo x newest below installed list old new) → count ≡ below
    → AreRewritten x count newest installed so_far.records
all_rewritten x newest below count installed list old new so_far is =
    subst (λ (l : List Put). AreRewritten x count newest installed l) (append-nil so_far.records) (so_far.rewritten 0 count [] (omega (arith, is)) tt)

pub damaged_after : (x : Tree) (newest below count : ℕ) (installed list : List TroveParts) (old new : Wants) (path : Name) → AreRewrittenTo x newest below installed list old new → below < count
    → IsDamagedJob One x (newest - below) list path → IsDamagedRecord One x count newest installed path
damaged_after x newest below count installed list old new path so_far lt damaged = record {
  good = so_far.good;
  before = list;
  fewer = let long = so_far.long in omega (arith, long, lt);
  holds = so_far.holds;
  none = subst (λ (n : ℕ). HoldsNoRecord One x (newest - n) list) (sym so_far.long) damaged.1;
  path_is = damaged.0 ∙ ap (λ (n : ℕ). record_file (newest - n)) (sym so_far.long);
}

-- ---- all writes

module _ (bytes : List ℕ) (records : List Put) (none first all_ : Wants) (empty : none.entries ≡ []) (db : HasFile database bytes none first) (added : AreAdded records first all_) (ordered : IsOrdered (slice_cmp nat_cmp) all_) where
  db_put : Put
  db_put = record { path = database; want = want.File 420 bytes }

  at_database : want_at all_ database ≡ Some (want.File 420 bytes)
  at_database = added.kept ∙ db database ∙ if_own (same_name database database) (Some (want.File 420 bytes)) (want_at none database) (same_itself database)

  nothing_at : (p : Name) → want_at none p ≡ None
  nothing_at p = nothing_wanted none empty p

  of_first : (p : Name) (w : Want) → want_at first p ≡ Some w → Contains (db_put ∷ []) (record { path = p; want = w })
  unfolding db_put
  of_first p w is = ⊎_elim
      (λ same.
      let here : want.File 420 bytes ≡ w = same_some (want.File 420 bytes) w (sym (if_own (same_name database p) (Some (want.File 420 bytes)) (want_at none p) same) ∙ sym (db p) ∙ is) in
      subst (λ (v : Want). Contains (db_put ∷ []) (record { path = p; want = v })) here
      (subst (λ (r : Name). Contains (db_put ∷ []) (record { path = r; want = want.File 420 bytes })) (same_means database p same)
      (contains_first db_put [])))
      (λ other. absurd (cc (is, db p ∙ if_other (same_name database p) (Some (want.File 420 bytes)) (want_at none p) other ∙ nothing_at p)))
      (cases_Bool (same_name database p))

  one_of : (q : Put) → Contains (puts_in all_) q → Contains (db_put ∷ []) q ⊎ Contains records q
  one_of q in' = ⊎_elim (λ old_. inl (of_first q.path q.want old_)) (λ more. inr more) (added.each q.path q.want (put_at all_ ordered q in'))

  pub migration_writes : IsUnion (puts_in all_) (record { path = database; want = want.File 420 bytes } ∷ []) records
  unfolding db_put
  migration_writes = record {
    rises = rises_from all_.entries ordered;
    some_in = All-cons (Contains (puts_in all_)) db_put [] (put_in all_ database (want.File 420 bytes) at_database) (All-nil (Contains (puts_in all_)));
    more_in = implied (λ (r : Put). want_at all_ r.path ≡ Some r.want) (Contains (puts_in all_)) records (λ r is. put_in all_ r.path r.want is) added.all;
    no_other = λ k d lt. one_of (get_or (puts_in all_) k d) (Contains-get_or (puts_in all_) k d lt);
  }

pub writes_are : (x : Tree) (db : Db) (none first all_ : Wants) (puts : List Put) → none.entries ≡ [] → HasFile database (database_bytes Two db.installed db.oldest db.newest) none first → AreAllRewritten x db first all_
    → IsOrdered (slice_cmp nat_cmp) all_ → puts ≡ puts_in all_ → AreWritesOf x db puts
writes_are x db none first all_ puts empty file rewritten ordered is =
    let bytes = database_bytes Two db.installed db.oldest db.newest in
    record {
      records = rewritten.records;
      rewritten = rewritten.rewritten;
      writes = subst (λ (l : List Put). IsUnion l (record { path = database; want = want.File 420 bytes } ∷ []) rewritten.records) (sym is)
          (migration_writes bytes rewritten.records none first all_ empty file rewritten.added ordered);
    }
