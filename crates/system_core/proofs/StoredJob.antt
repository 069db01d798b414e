-- The system after a job, by the tree on which its write set is put.
use Rattle.std.proofs.Common.{◌≡◌, ◌⊎◌, ⊎_elim, inl, inr, ℕ, ◌+◌, ◌<◌, ◌≤◌, ◌^◌, true, false, IsTrue, List, [], ◌∷◌, map, get_or, Option, Some, None, is_some, All, Contains, refl, sym, ◌∙◌, ap, subst, arith}
use Rattle.std.specs.Prelude.{◌≢◌}
use Rattle.std.proofs.lemmas.Bool.{cases_Bool}
use Rattle.std.proofs.lemmas.List.Elements.{All-cons, All-head, All-nil, All-tail, All-contains, Contains-get_or}
use Rattle.std.specs.FinMap.{get}
use Rattle.sha1.specs.Sha1.{sha1}
use Rattle.rollback_stack.specs.content-store.Store.{stored}
use Rattle.rollback_stack.specs.cny-base.Path.{is_path, parent, root}
use Rattle.rollback_stack.specs.cny-base.Reserved.{private_directory, is_reserved}
use Rattle.rollback_stack.specs.cny-base.declared.limits.TheConstants.{JOBS_LIMIT}
use Rattle.rollback_stack.specs.cny-base.declared.node.Node.{Node}
use Rattle.rollback_stack.specs.cny-base.declared.node.Node.TheVariants as node
use Rattle.rollback_stack.specs.trove-stream.declared.parts.TroveParts.{TroveParts}
use Rattle.rollback_stack.specs.tree-disk.Tree.{Name, Tree, same_name, is_dir, may_stand, WellFormed}
use Rattle.rollback_stack.specs.tree-disk.Confined.{AgreesExcept, Among}
use Rattle.rollback_stack.specs.journal-log.declared.put.Want.TheVariants as want
use Rattle.rollback_stack.specs.journal-log.declared.put.Put.{Put}
use Rattle.rollback_stack.specs.journal-log.WriteSet.{Rises}
use Rattle.rollback_stack.specs.journal-log.Targets.{is_target, node_of, with_targets}
use Rattle.rollback_stack.specs.tree-scan.Marks.{fingerprint}
use Rattle.local_db.specs.MarkBytes.{IsMark}
use Rattle.local_db.specs.declared.format.Format.TheVariants.{Two}
use Rattle.local_db.specs.Formats.{database_bytes, Fits}
use Rattle.local_db.specs.Installed.{IsInstalled}
use Rattle.local_db.specs.Names.{database, record_file, saved}
use Rattle.local_db.specs.Record as state
use Rattle.local_db.specs.Record.{IsRecord}
use Rattle.local_db.specs.Stores.{HoldsSaved, StoresIn}
use Rattle.local_db.specs.SystemState.{SystemState, newest, oldest, IsFree, IsTellable}
use Rattle.local_db.specs.Steps.{after_job, database_put, old_of, paths_of, pushed, record_put, want_of, CanJob, IsJobReady, IsOwnWrite, IsPuttable, IsUnion}
use Rattle.local_db.proofs.FileNames.{database_is_path, record_is_path}
use Rattle.local_db.proofs.Jobs.{outer_differs}
use Rattle.local_db.proofs.Places.{database_reserved, database_write, record_reserved, record_write}
use Rattle.local_db.proofs.Systems.{free_targets, node_of_want}
use Rattle.local_db.proofs.Together.{job_after}
use Rattle.local_db.proofs.Unions.{wrote_alike}
use Rattle.local_db.proofs.Writes.{with_targets_target}
use Rattle.job_targets.specs.declared.entry.Entry.{Entry}
use Rattle.job_targets.specs.Old.{IsSaved}
use Rattle.rollback_stack.specs.Saving.{is_saving_name, IsNextJob}
use Rattle.rollback_stack.proofs.Keeping.{not_counted}
use Rattle.rollback_stack.specs.Entries.{entries_of, entry_of}
use Rattle.system_core.specs.JobWriting.{AreTargetsOf, entries_over, entry_over}
use Rattle.system_core.specs.JobWriting as spec
use Rattle.tree_journal.proofs.WriteSets.{target_at, with_targets_outside}
use Rattle.rollback_stack.proofs.job-record.ByLists.{unmapped}
use Rattle.local_db.proofs.cny-base.Lists.{contains_cases, contains_first, contains_rest, nothing_in}
use Rattle.tree_journal.proofs.tree-disk.Children.{or_none as neither}
use Rattle.local_db.proofs.Putting.{parent_outer}

-- ---- names

none_or_some : (n : Option Node) → n ≡ None → is_some n ≡ true → ⊥
none_or_some n none some = absurd (cc (some, ap is_some none))

file_wanted : (mode : ℕ) (bytes : List ℕ) → want.File mode bytes ≡ want.Nothing → ⊥
file_wanted mode bytes e = absurd (cc e)

-- ---- the targets in the tree

module _ (puts : List Put) (es : List Entry) (x x1 : Tree) (rises : Rises puts) (free : All (λ (p : Put). IsFree p.path) puts) (targets : AreTargetsOf x puts es)
    (outer : (q : Name) → is_reserved q ≡ false → get x1 q ≡ get x q) where
  free_at : (p : Put) → Contains puts p → IsFree p.path
  free_at p in' = All-contains (λ (p : Put). IsFree p.path) puts p free in'

  -- ---- the journal may put them, with two writes more

  module _ (all : List Put) (n mode : ℕ) (record_bytes bytes : List ℕ)
      (union : IsUnion all puts (record_put n mode record_bytes ∷ spec.database_write bytes ∷ [])) (most : n ≤ JOBS_LIMIT) (well : WellFormed x1) (base : is_dir (get x1 private_directory) ≡ true)
      (no_record : get x1 (record_file n) ≡ None) (no_dir : is_dir (get x1 database) ≡ false) (stand : All (λ (p : Put). IsTrue (may_stand (node_of p.want))) all) where
    abbrev more : List Put
    more = record_put n mode record_bytes ∷ spec.database_write bytes ∷ []

    number_fits : n < 2 ^ 32
    number_fits = let top : JOBS_LIMIT ≡ 4294967295 = refl in omega (arith, top, most)

    record_in : Contains all (record_put n mode record_bytes)
    record_in = All-head (Contains all) (record_put n mode record_bytes) (spec.database_write bytes ∷ []) union.more_in

    database_in : Contains all (spec.database_write bytes)
    database_in = All-head (Contains all) (spec.database_write bytes) [] (All-tail (Contains all) (record_put n mode record_bytes) (spec.database_write bytes ∷ []) union.more_in)

    stand_at : (p : Put) → Contains all p → IsTrue (may_stand (node_of p.want))
    stand_at p in' = All-contains (λ (p : Put). IsTrue (may_stand (node_of p.want))) all p stand in'

    outer_more : (q : Name) → is_reserved q ≡ false → is_target more q ≡ false
    outer_more q out = neither (same_name q (record_file n)) _ (outer_differs q (record_file n) out (record_reserved n))
        (neither (same_name q database) false (outer_differs q database out database_reserved) refl)

    more_cases : (P : Put → Type 0) → P (record_put n mode record_bytes) → P (spec.database_write bytes) → (p : Put) → Contains more p → P p
    more_cases P first second p in' = ⊎_elim
        (λ same. subst P same first)
        (λ rest. ⊎_elim
        (λ same. subst P same second)
        (λ none. absurd (nothing_in p none))
        (contains_cases (spec.database_write bytes) p [] rest))
        (contains_cases (record_put n mode record_bytes) p (spec.database_write bytes ∷ []) in')

    path_at : (p : Put) → Contains puts p ⊎ Contains more p → IsTrue (is_path p.path)
    path_at p (inl in') = (free_at p in').path_is
    path_at p (inr in') = more_cases (λ (p : Put). IsTrue (is_path p.path)) (record_is_path n number_fits) database_is_path p in'

    goes_at : (p : Put) → Contains puts p ⊎ Contains more p → p.want ≡ want.Nothing → get x1 p.path ≢ None
    goes_at p (inl in') nothing none =
        All-contains (λ (p : Put). get x p.path ≢ node_of p.want) puts p targets.changes in'
        (sym (outer p.path (free_at p in').not_reserved) ∙ none ∙ sym (ap node_of nothing))
    goes_at p (inr in') nothing none =
        more_cases (λ (p : Put). p.want ≡ want.Nothing → ⊥) (file_wanted mode record_bytes) (file_wanted 420 bytes) p in' nothing

    pub puttable : IsPuttable puts (record_put n mode record_bytes ∷ spec.database_write bytes ∷ []) all x1 (with_targets puts x)
    puttable = record {
      writes = union;
      free = free;
      own = All-cons (IsOwnWrite x1) (record_put n mode record_bytes) (spec.database_write bytes ∷ [])
          (record_write x1 n (record_put n mode record_bytes) number_fits refl (ap is_dir no_record) (stand_at (record_put n mode record_bytes) record_in))
          (All-cons (IsOwnWrite x1) (spec.database_write bytes) []
          (database_write x1 (spec.database_write bytes) refl no_dir (stand_at (spec.database_write bytes) database_in))
          (All-nil (IsOwnWrite x1)));
      paths = λ k d lt. path_at (get_or all k d) (union.no_other k d lt);
      stands = λ k d lt. goes_at (get_or all k d) (union.no_other k d lt);
      well_formed = well;
      base = base;
      managed = λ q out. wrote_alike all puts more union x1 x q (λ hit p in'. with_targets_target puts x p rises in') (outer_more q out) (outer q out);
      managed_formed = targets.well_formed;
    }

  -- ---- from a system that the tree stores

  module _ (s : SystemState) (stores : StoresIn Two x s) where
    same_node : (q : Name) → is_reserved q ≡ false → get s.tree q ≡ get x q
    same_node q out = sym (stores.managed q out)

    after_outer : (q : Name) → is_reserved q ≡ false → get (with_targets puts s.tree) q ≡ get (with_targets puts x) q
    after_outer q out = ⊎_elim
        (λ hit. let t = target_at puts q hit in
        ap (get (with_targets puts s.tree)) t.2 ∙ with_targets_target puts s.tree t.0 rises t.1 ∙ sym (with_targets_target puts x t.0 rises t.1) ∙ ap (get (with_targets puts x)) (sym t.2))
        (λ miss. with_targets_outside puts s.tree q miss ∙ same_node q out ∙ sym (with_targets_outside puts x q miss))
        (cases_Bool (is_target puts q))

    after_reserved : (q : Name) → is_reserved q ≡ true → get (with_targets puts s.tree) q ≡ None
    after_reserved q in' = with_targets_outside puts s.tree q (free_targets puts free q in') ∙ stores.system.managed q in'

    stands_outer : (q : Name) → is_some (get (with_targets puts s.tree) q) ≡ true → is_reserved q ≡ false
    stands_outer q some = ⊎_elim
        (λ in'. absurd (none_or_some (get (with_targets puts s.tree) q) (after_reserved q in') some))
        (λ out. out)
        (cases_Bool (is_reserved q))

    path_stands : (q : Name) → is_some (get (with_targets puts s.tree) q) ≡ true → is_path q ≡ true
    path_stands q some = targets.well_formed.paths q (ap is_some (sym (after_outer q (stands_outer q some))) ∙ some)

    after_formed : WellFormed (with_targets puts s.tree)
    after_formed = record {
      paths = path_stands;
      root_stands = ap is_dir (after_outer root refl) ∙ targets.well_formed.root_stands;
      parents = λ q some.
          let out = stands_outer q some in
          ap is_dir (after_outer (parent q) (parent_outer q (path_stands q some) out)) ∙ targets.well_formed.parents q (ap is_some (sym (after_outer q out)) ∙ some);
      nodes = λ q. ⊎_elim
          (λ in'. ap may_stand (after_reserved q in'))
          (λ out. ap may_stand (after_outer q out) ∙ targets.well_formed.nodes q)
          (cases_Bool (is_reserved q));
    }

    node_at : (p : Put) → Contains puts p → get s.tree p.path ≡ get x p.path
    node_at p in' = same_node p.path (free_at p in').not_reserved

    marks_of : All state.IsEntry (entries_of es) → All (λ (p : Put). IsMark (fingerprint (node_of p.want))) puts
    marks_of are =
        let over : All (λ (e : Entry). state.IsEntry (entry_of e)) (entries_over x puts) = subst (All (λ (e : Entry). state.IsEntry (entry_of e))) targets.entries (unmapped state.IsEntry entry_of es are) in
        let each = unmapped (λ (e : Entry). state.IsEntry (entry_of e)) (entry_over x) puts over in
        λ k d lt. (each k d lt).now

    pub can_job : (list : List TroveParts) → All state.IsEntry (entries_of es) → IsInstalled list → Fits Two list → newest s.stack + 1 ≤ JOBS_LIMIT → CanJob puts list s
    can_job list are installed fits most = record {
      rises = rises;
      free = free;
      changes = λ k d lt e. targets.changes k d lt (sym (node_at (get_or puts k d) (Contains-get_or puts k d lt)) ∙ e);
      before = λ k d lt. subst IsTellable (sym (node_at (get_or puts k d) (Contains-get_or puts k d lt))) (targets.before k d lt);
      after = marks_of are;
      well_formed = after_formed;
      list_is = installed;
      fits = fits;
      number = most;
    }

    -- ---- the entries of the record

    entry_at : (p : Put) → Contains puts p
        → entry_of (entry_over x p) ≡ record { path = p.path; was = fingerprint (get s.tree p.path); now = fingerprint (get (with_targets puts s.tree) p.path) }
    entry_at p in' = λ i. record {
      path = p.path;
      was = fingerprint ((node_of_want (get x p.path) ∙ sym (node_at p in')) i);
      now = fingerprint (sym (with_targets_target puts s.tree p rises in') i);
    }

    entries_at : (ps : List Put) → ((p : Put) → Contains ps p → Contains puts p)
        → entries_of (entries_over x ps) ≡ map (λ (q : Name). record { path = q; was = fingerprint (get s.tree q); now = fingerprint (get (with_targets puts s.tree) q) }) (paths_of ps)
    entries_at [] within = refl
    entries_at (p ∷ ps) within = λ i. entry_at p (within p (contains_first p ps)) i ∷ entries_at ps (λ q in'. within q (contains_rest p q ps in')) i

    pub entries_are : entries_of es ≡ state.entries_of (old_of puts s)
    entries_are = ap entries_of targets.entries ∙ entries_at puts (λ p in'. in')

    -- ---- the old contents

    module _ (n : ℕ) (number : n ≡ newest s.stack + 1) (contents : All (λ (e : Entry). IsSaved x1 n e.was) es) where
      saved_over : All (λ (p : Put). IsSaved x1 n (want_of (get x p.path))) puts
      saved_over = unmapped (λ (e : Entry). IsSaved x1 n e.was) (entry_over x) puts (subst (All (λ (e : Entry). IsSaved x1 n e.was)) targets.entries contents)

      path_in : (ps : List Put) (path : Name) → Contains (paths_of ps) path → (p : Put) × Contains ps p × (p.path ≡ path)
      path_in [] path in' = absurd (nothing_in path in')
      path_in (p ∷ ps) path in' = ⊎_elim
          (λ same. (p, contains_first p ps, same))
          (λ later. let more = path_in ps path later in (more.0, contains_rest p more.0 ps more.1, more.2))
          (contains_cases p.path path (paths_of ps) in')

      saved_at : (p : Put) → Contains puts p → (mode : ℕ) (bytes : List ℕ) → get s.tree p.path ≡ Some (node.File mode bytes) → stored x1 (saved n) (sha1 bytes) ≡ Some bytes
      saved_at p in' mode bytes is =
          let w : want_of (get x p.path) ≡ want.File mode bytes = ap want_of (sym (node_at p in') ∙ is) in
          subst (IsSaved x1 n) w (All-contains (λ (p : Put). IsSaved x1 n (want_of (get x p.path))) puts p saved_over in')

      pub holds_saved : HoldsSaved x1 (old_of puts s)
      holds_saved path mode bytes in' is =
          let p = path_in puts path in' in
          ap (λ (k : ℕ). stored x1 (saved k) (sha1 bytes)) (sym number) ∙ saved_at p.0 p.1 mode bytes (ap (get s.tree) p.2 ∙ is)

    -- ---- the system after the job

    module _ (list : List TroveParts) (are : All state.IsEntry (entries_of es)) (installed : IsInstalled list) (fits : Fits Two list)
        (all : List Put) (n low mode : ℕ) (dropped : Option ℕ) (record_bytes bytes : List ℕ)
        (union : IsUnion all puts (record_put n mode record_bytes ∷ spec.database_write bytes ∷ []))
        (number : n ≡ newest s.stack + 1) (most : n ≤ JOBS_LIMIT) (lowest : low ≡ oldest (pushed (old_of puts s) s.stack))
        (text : bytes ≡ database_bytes Two list low n) (record_is : IsRecord Two n s.installed list (entries_of es) record_bytes)
        (contents : All (λ (e : Entry). IsSaved x1 n e.was) es)
        (next : IsNextJob s n dropped) (agrees : AgreesExcept (Among (is_saving_name n dropped)) x1 x) where
      fits_four : n < 2 ^ 32
      fits_four = let top : JOBS_LIMIT ≡ 4294967295 = refl in omega (arith, top, most)

      database_is : spec.database_write bytes ≡ database_put Two 420 (after_job puts list s)
      database_is = λ i. record { path = database; want = want.File 420 ((text ∙ (λ j. database_bytes Two list (lowest j) (number j))) i) }

      union_is : IsUnion all puts (record_put (newest s.stack + 1) mode record_bytes ∷ database_put Two 420 (after_job puts list s) ∷ [])
      union_is = subst (λ (p : Put). IsUnion all puts (record_put (newest s.stack + 1) mode record_bytes ∷ p ∷ [])) database_is
          (subst (λ (k : ℕ). IsUnion all puts (record_put k mode record_bytes ∷ spec.database_write bytes ∷ [])) number union)

      ready : IsJobReady Two puts list s x x1 all
      ready = record {
        still = λ q counted. agrees q (λ among. absurd (cc (counted, not_counted s n dropped next fits_four stores.system q among)));
        contents = holds_saved n number contents;
        bytes = record_bytes;
        record_is = subst (λ (es : List state.Entry). IsRecord Two (newest s.stack + 1) s.installed list es record_bytes) entries_are
            (subst (λ (k : ℕ). IsRecord Two k s.installed list (entries_of es) record_bytes) number record_is);
        record_mode = mode;
        database_mode = 420;
        writes = union_is;
      }

      pub job_stored : StoresIn Two (with_targets all x1) (after_job puts list s)
      job_stored = job_after Two x x1 s puts list all stores (can_job list are installed fits (subst (λ (k : ℕ). k ≤ JOBS_LIMIT) number most)) fits ready
