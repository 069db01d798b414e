-- After the writes of a job, or of a rollback, the tree stands for the system after it.
use Rattle.std.proofs.Common.{◌≡◌, ⊎_elim, ℕ, zero, suc, ◌+◌, ◌<◌, ◌^◌, true, false, not, List, [], ◌∷◌, take, refl, ◌∙◌, ap, subst, arith, ◌≤◌}
use Rattle.std.proofs.lemmas.Bool.{cases_Bool}
use Rattle.std.specs.FinMap.{get}
use Rattle.trove_stream.specs.cny-base.Reserved.{is_reserved}
use Rattle.trove_stream.specs.cny-base.declared.limits.TheConstants.{JOBS_LIMIT}
use Rattle.sha1.specs.Sha1.{sha1}
use Rattle.trove_stream.specs.declared.parts.TroveParts.{TroveParts}
use Rattle.tree_journal.specs.tree-disk.Tree.{Name, Tree, same_name, WellFormed, AgreesOutside}
use Rattle.tree_journal.specs.tree-disk.Laws.{same_means}
use Rattle.tree_journal.proofs.tree-disk.ClearLaws.{or_cases}
use Rattle.tree_journal.specs.journal-log.declared.put.Put.{Put}
use Rattle.tree_journal.specs.journal-log.Targets.{is_target, with_targets}
use Rattle.local_db.proofs.Writes.{not_both, with_targets_target}
use Rattle.local_db.specs.declared.format.Format.{Format}
use Rattle.local_db.specs.Formats.{Fits}
use Rattle.local_db.specs.SystemState.{StackItem, SystemState, newest, AreNumbered}
use Rattle.local_db.specs.Names.{database, record_file, saved, is_job_name, is_job_name_of, is_job_place, counts}
use Rattle.content_store.specs.Store.{content_path, file_bytes}
use Rattle.local_db.specs.Record.{entries_of, IsRecord}
use Rattle.local_db.specs.Stores.{HoldsFile, HoldsSaved, HoldsStack, written, StoresIn}
use Rattle.local_db.specs.Steps.{old_of, after_job, CanJob, backs, after_rollback, IsUnion, database_put, record_put, no_record_put}
use Rattle.local_db.proofs.Places.{database_reserved, record_reserved, job_reserved, job_not_database, content_not_record, content_is_job, one_job, job_place, record_is_job, job_of}
use Rattle.local_db.proofs.Frame.{file_stays, olds_stay}
use Rattle.local_db.proofs.Unions.{wrote_more, wrote_no_other, wrote_alike}
use Rattle.local_db.proofs.Systems.{four_bytes, numbered_rest, newest_rest, free_targets, free_backs, rising_backs, job_is_system, rollback_is_system, newest_is_old, system_database}
use Rattle.trove_stream.proofs.cny-base.Lists.{contains_first, contains_rest}
use Rattle.tree_scan.proofs.tree-disk.Children.{or_none as neither}
use Rattle.trove_stream.proofs.cny-base.Bools.{or_left, or_right}

-- ---- two writes below the private directory

two_not : (a b : Put) (q : Name) → same_name q a.path ≡ false → same_name q b.path ≡ false → is_target (a ∷ b ∷ []) q ≡ false
two_not a b q h g = neither (same_name q a.path) _ h (neither (same_name q b.path) false g refl)

pub outer_differs : (q p : Name) → is_reserved q ≡ false → is_reserved p ≡ true → same_name q p ≡ false
outer_differs q p out in' = ⊎_elim (λ same. not_both (is_reserved q) (ap is_reserved (same_means q p same) ∙ in') out) (λ other. other) (cases_Bool (same_name q p))

-- the names of jobs up to a number, and the record of a greater one
pub not_later_record : (olds : List StackItem) (n : ℕ) → AreNumbered olds → newest olds < n → n < 2 ^ 32 → (q : Name) → is_job_name_of olds q ≡ true → same_name q (record_file n) ≡ false
not_later_record olds n numbered lt fits q job = ⊎_elim
    (λ same. let j = job_of olds numbered q job in
    let high = j.high in
    let record_n : is_job_place n q ≡ true = ap (is_job_place n) (same_means q (record_file n) same) ∙ job_place n (record_file n) (record_is_job n) in
    let is : j.number ≡ n = one_job j.number n q (omega (arith, high, lt, fits)) fits (job_place j.number q j.name) record_n in
    absurd (omega (arith, is, high, lt)))
    (λ other. other)
    (cases_Bool (same_name q (record_file n)))

pub stack_reserved : (olds : List StackItem) (q : Name) → is_job_name_of olds q ≡ true → (is_reserved q ≡ true) × (same_name q database ≡ false)
stack_reserved [] q h = absurd (cc h)
stack_reserved (o ∷ olds) q h = ⊎_elim (λ a. (job_reserved o.number q a, job_not_database o.number q a)) (λ b. stack_reserved olds q b) (or_cases (is_job_name o.number q) (is_job_name_of olds q) h)

-- ---- the dropped jobs

olds_taken : (f : Format) (x : Tree) (after : List TroveParts) (n : ℕ) (olds : List StackItem) → HoldsStack f x after olds → HoldsStack f x after (take n olds)
olds_taken f x after zero olds h = tt
olds_taken f x after (suc n) [] h = tt
olds_taken f x after (suc n) (o ∷ olds) h = (h.0, olds_taken f x o.list n olds h.1)

-- ---- a job

module _ (f : Format) (x x1 : Tree) (s : SystemState) (stands : StoresIn f x s) (still : (q : Name) → counts s q ≡ true → get x1 q ≡ get x q)
    (puts : List Put) (list : List TroveParts) (can : CanJob puts list s) (fits : Fits f list) (fits_old : Fits f s.installed)
    (bytes : List ℕ) (text : IsRecord f (newest s.stack + 1) s.installed list (entries_of (old_of puts s)) bytes) (old_contents : HoldsSaved x1 (old_of puts s))
    (m n : ℕ) (all : List Put)
    (union : IsUnion all puts (record_put (newest s.stack + 1) m bytes ∷ database_put f n (after_job puts list s) ∷ [])) where
  y : Tree
  y = with_targets all x1

  record_of : Put
  record_of = record_put (newest s.stack + 1) m bytes

  database_of : Put
  database_of = database_put f n (after_job puts list s)

  outer : AgreesOutside is_reserved y (with_targets puts s.tree)
  unfolding y record_of database_of
  outer q out = wrote_alike all puts (record_of ∷ database_of ∷ []) union x1 s.tree q
      (λ hit p in'. with_targets_target puts s.tree p can.rises in')
      (two_not record_of database_of q (outer_differs q (record_file (newest s.stack + 1)) out (record_reserved (newest s.stack + 1))) (outer_differs q database out database_reserved))
      (still q (or_left _ _ (ap not out)) ∙ stands.managed q out)

  record_stands : HoldsFile y (record_file (newest s.stack + 1)) bytes
  unfolding y record_of database_of
  record_stands = ap file_bytes (wrote_more all puts (record_of ∷ database_of ∷ []) union x1 record_of (contains_first record_of (database_of ∷ [])))

  -- what else lies below the private directory is as it was
  inner : (q : Name) → is_reserved q ≡ true → same_name q (record_file (newest s.stack + 1)) ≡ false → same_name q database ≡ false → get y q ≡ get x1 q
  unfolding y record_of database_of
  inner q in' a b = wrote_no_other all puts (record_of ∷ database_of ∷ []) union x1 q (free_targets puts can.free q in') (two_not record_of database_of q a b)

  saved_stands : HoldsSaved y (old_of puts s)
  saved_stands path mode old in' is =
      let name = content_path (saved (newest s.stack + 1)) (sha1 old) in
      let job = content_is_job (newest s.stack + 1) (sha1 old) in
      file_stays x1 y name old (inner name (job_reserved (newest s.stack + 1) name job) (content_not_record (newest s.stack + 1) (newest s.stack + 1) (sha1 old))
      (job_not_database (newest s.stack + 1) name job)) (old_contents path mode old in' is)

  olds_stand : HoldsStack f y s.installed s.stack
  olds_stand = olds_stay f x y s.installed s.stack
      (λ q job. let r = stack_reserved s.stack q job in
      inner q r.0 (not_later_record s.stack (newest s.stack + 1) stands.system.numbered (omega arith) (four_bytes (newest s.stack + 1) can.number) q job) r.1
      ∙ still q (or_right (not (is_reserved q)) _ (or_right (same_name q database) _ job)))
      stands.olds

  pub job_stored : StoresIn f (with_targets all x1) (after_job puts list s)
  unfolding y record_of database_of
  job_stored = record {
    system = job_is_system puts list s stands.system can;
    managed = outer;
    list = written (system_database f (after_job puts list s) (job_is_system puts list s stands.system can) fits) (ap file_bytes (wrote_more all puts (record_of ∷ database_of ∷ []) union x1 database_of (contains_rest record_of database_of (database_of ∷ []) (contains_first database_of []))));
    olds = (record { bytes = bytes; file = record_stands; text = text; contents = saved_stands; fits = fits_old }, olds_taken f y s.installed 4095 s.stack olds_stand);
  }

-- ---- a rollback

module _ (f : Format) (x : Tree) (s : SystemState) (stands : StoresIn f x s) (o : StackItem) (olds : List StackItem) (stack : s.stack ≡ o ∷ olds)
    (well : WellFormed (with_targets (backs o) s.tree))
    (n : ℕ) (all : List Put)
    (union : IsUnion all (backs o) (no_record_put o.number ∷ database_put f n (after_rollback o olds s) ∷ [])) where
  gone : Put
  gone = no_record_put o.number

  left : Put
  left = database_put f n (after_rollback o olds s)

  holds : HoldsStack f x s.installed (o ∷ olds)
  holds = subst (HoldsStack f x s.installed) stack stands.olds

  numbers : AreNumbered (o ∷ olds)
  numbers = subst AreNumbered stack stands.system.numbered

  number : o.number < 2 ^ 32
  number = four_bytes o.number (subst (λ st. newest st ≤ JOBS_LIMIT) stack stands.system.number)

  outer_back : AgreesOutside is_reserved (with_targets all x) (with_targets (backs o) s.tree)
  unfolding gone left
  outer_back q out = wrote_alike all (backs o) (gone ∷ left ∷ []) union x s.tree q
      (λ hit p in'. with_targets_target (backs o) s.tree p (rising_backs o (newest_is_old o olds s stands.system stack well).rising) in')
      (two_not gone left q (outer_differs q (record_file o.number) out (record_reserved o.number)) (outer_differs q database out database_reserved))
      (stands.managed q out)

  olds_left : HoldsStack f (with_targets all x) o.list olds
  unfolding gone left
  olds_left = olds_stay f x (with_targets all x) o.list olds
      (λ q job. let r = stack_reserved olds q job in
      wrote_no_other all (backs o) (gone ∷ left ∷ []) union x q (free_targets (backs o) (free_backs o (newest_is_old o olds s stands.system stack well).free) q r.0)
      (two_not gone left q (not_later_record olds o.number (numbered_rest o olds numbers) (newest_rest o olds numbers) number q job) r.1))
      holds.1

  pub rollback_stored : StoresIn f (with_targets all x) (after_rollback o olds s)
  unfolding gone left
  rollback_stored = record {
    system = rollback_is_system o olds s stands.system stack well;
    managed = outer_back;
    list = written (system_database f (after_rollback o olds s) (rollback_is_system o olds s stands.system stack well) holds.0.fits) (ap file_bytes (wrote_more all (backs o) (gone ∷ left ∷ []) union x left (contains_rest gone left (left ∷ []) (contains_first left []))));
    olds = olds_left;
  }
