-- What crash images recover to while a write set is applied.
use Rattle.std.proofs.Common.{◌≡◌, ◌≢◌, inl, inr, ⊎_elim, ℕ, ◌≤◌, ◌^◌, ◌<◌, Bool, true, false, cond, ◌==◌, IsTrue, List, [], ◌∷◌, get_or, map, codes, length, Option, Some, None, is_some, Contains, Result, Ok, Err, OnOk, IfErr, IsErrOf, IsErrAnd, refl, sym, ◌∙◌, ap, subst, arith}
use Rattle.std.proofs.lemmas.Bool.{cases_Bool}
use Rattle.std.proofs.lemmas.List.Elements.{All-head, All-tail, All-cons, All-weaker, Contains-get_or}
use Rattle.std.proofs.lemmas.Bool.Decides.{nat_tests}
use Rattle.std.specs.Fmt.{decimal}
use Rattle.std.specs.List.{All}
use Rattle.std.specs.FinMap.{get}
use Rattle.journal_log.specs.cny-base.Count.{Rose}
use Rattle.journal_log.specs.cny-base.Path.{is_path}
use Rattle.journal_log.specs.cny-base.Below.{is_below}
use Rattle.journal_log.specs.cny-base.declared.node.Node.{Node}
use Rattle.journal_log.specs.cny-base.declared.node.Node.TheVariants as node
use Rattle.journal_log.specs.cny-base.declared.stop.Stop.{Stop}
use Rattle.journal_log.specs.cny-base.declared.stop.Stop.TheVariants.{Refused, Memory, Failed, Damaged, FarFailed, FarDamaged}
use Rattle.journal_log.specs.tree-disk.Tree.{Name, Tree, same_name, is_dir, is_file, children, AgreesOutside, WellFormed}
use Rattle.journal_log.specs.tree-disk.Laws.{same_means}
use Rattle.journal_log.proofs.tree-disk.Laws.{same_itself, get_put_here, get_put_other, reads_image}
use Rattle.journal_log.proofs.tree-disk.Children.{none_below, stands_or_not}
use Rattle.journal_log.specs.tree-disk.Clear.{is_within, without_tree}
use Rattle.journal_log.proofs.tree-disk.ClearLaws.{below_within, within_itself, or_cases}
use Rattle.journal_log.specs.tree-disk.Disk.{DiskModel, IsDisk, IsImageOf}
use Rattle.journal_log.specs.tree-disk.Confined.{Among, Confined, DiffersOnlyAt, IsUnsyncedOr, IsSynced, LeavesOnly}
use Rattle.journal_log.proofs.tree-disk.ConfinedLaws.{leaves_weaker, leaves_then, confined_start, confined_wider, confined_then}
use Rattle.journal_log.specs.tree-disk.Steps.{no_name, Ended, IsDiskStop, Makes}
use Rattle.journal_log.proofs.tree-disk.Moments.{rose_before}
use Rattle.journal_log.specs.tree-disk.Unfailed.{UnlessFailed}
use Rattle.journal_log.proofs.tree-disk.Unfailed.{unfailed_start, unfailed_weaker, unfailed_then, unfailed_confined}
use Rattle.journal_log.specs.declared.put.Want.{Want}
use Rattle.journal_log.specs.declared.put.Want.TheVariants as want
use Rattle.journal_log.specs.declared.put.Put.{Put}
use Rattle.journal_log.specs.Own.{gate, log, work, staged, staged_file, is_own, StoresSame}
use Rattle.journal_log.specs.Rules.{AreLogged}
use Rattle.journal_log.specs.Staged.{is_file_want, HaveNoBytes, names_staged, names_staged_at, is_staged_as, is_staged_at}
use Rattle.journal_log.specs.Numbers.{staged_want, with_numbers, IsNumbered}
use Rattle.journal_log.proofs.StagedLaws.{staged_short}
use Rattle.journal_log.proofs.NumberLaws.{same_count, all_with_numbers, staged_dir, staged_nothing, numbered_rises, numbered_targets}
use Rattle.journal_log.specs.WriteSet.{CanBeNamed, CanBeLogged, IsLoggable, IsFormed, ComesBefore, Rises}
use Rattle.journal_log.specs.Targets.{is_dir_want, node_of, is_target, with_targets}
use Rattle.tree_journal.specs.CanBePut.{CanBePut, AllCanBePut}
use Rattle.tree_journal.specs.Recovery.{is_flag, is_committed, RecoversTo, at_rest}
use Rattle.tree_journal.specs.Staging.{has_content, AllStaged, HoldsNoOthers, resolved, resolve, outcome}
use Rattle.tree_journal.specs.Apply.{with_base, goal, CanApply, Applies, HoldsStaged, IsAsBefore, IsBeforeOrAfter, IsAtRest, IsOneOf, is_own_or_target}
use Rattle.tree_journal.specs.Passes.{all_put}
use Rattle.tree_journal.specs.Visible.{IsVisible}
use Rattle.tree_journal.specs.Steps.{with_stage, with_staged, is_replay_name, HasLog, IsCommitted, IsLogOf}
use Rattle.tree_journal.proofs.BetweenSteps.{with_log, with_flag, committed, is_log_or_staged, HasNoFlag, IsPrepared, IsOldOrNew}
use Rattle.tree_journal.proofs.WriteSets.{neither}
use Rattle.tree_journal.proofs.OwnNames.{in_gate, in_log, in_work, in_staged, base_own, log_or_staged_own, base_not_in_gate, base_not_in_log, base_not_in_staged, log_not_in_gate, gate_not_written, staged_apart_gate, staged_apart_log, staged_apart_work, staged_not_root}
use Rattle.tree_journal.proofs.OwnFiles.{get-own_file_other, get-own_file_here, get-base_other, base_stands}
use Rattle.tree_journal.proofs.Staged.{AgreesStaged, all_staged_same, content_file, outcome_outside, own_free, resolve_all_same, same_targets, same_outcome, outcome_target, target_resolved, decimal_plain}
use Rattle.tree_journal.proofs.StagedBytes.{IsFree, Keeps, file_longer, strays_kept, staged_elsewhere, written_holds}
use Rattle.tree_journal.proofs.Seen.{visible_same, visible_before, agrees_stores}
use Rattle.tree_journal.proofs.ReplayImages.{recovers_same, by_flag, can_elsewhere, replay_image, image_agrees, same_all_put, without_work}
use Rattle.journal_log.proofs.cny-base.Faults.{on_err}
use Rattle.journal_log.proofs.cny-base.Bools.{or_left, or_right}
use Rattle.journal_log.proofs.cny-base.Below.{test_equal as same_number}

not_false : {A : Type 0} (b : Bool) → b ≡ true → b ≡ false → A
not_false b is other = absurd (cc (is, other))

-- ---- the write set

nothing_of : (base : Name) (start : Tree) (w : Want) → node_of (resolved base start w) ≡ None → w ≡ want.Nothing
nothing_of base start want.Nothing is = refl
nothing_of base start (want.Dir mode) is = absurd (cc is)
nothing_of base start (want.File mode bytes) is = absurd (cc is)
nothing_of base start (want.Link target) is = absurd (cc is)
nothing_of base start (want.Staged mode number size name) is = absurd (cc is)

no_dir_of : (base : Name) (start : Tree) (w : Want) → is_dir_want w ≡ false → is_dir (node_of (resolved base start w)) ≡ false
no_dir_of base start want.Nothing is = refl
no_dir_of base start (want.Dir mode) is = absurd (cc is)
no_dir_of base start (want.File mode bytes) is = refl
no_dir_of base start (want.Link target) is = refl
no_dir_of base start (want.Staged mode number size name) is = refl

-- Where the tree with all targets is well formed, nothing is wanted below what isn't to be a directory.
pub nothing_below_from : (base : Name) (puts : List Put) (tree : Tree) → Rises puts → All (λ p. IsTrue (is_path p.path)) puts → WellFormed (outcome base puts tree)
    → All (λ p. is_dir_want p.want ≡ false → All (λ q. IsTrue (is_below p.path q.path) → q.want ≡ want.Nothing) puts) puts
nothing_below_from base puts tree rises paths well k d lt other j e lt' low = nothing_of base tree q.want (sym (outcome_target base tree puts tree q rises q_in) ∙ gone)
  where
    p : Put
    p = get_or puts k d

    q : Put
    q = get_or puts j e

    p_in : Contains puts (get_or puts k d)
    p_in = Contains-get_or puts k d lt

    q_in : Contains puts (get_or puts j e)
    q_in = Contains-get_or puts j e lt'

    gone : get (outcome base puts tree) (get_or puts j e).path ≡ None
    gone = none_below (outcome base puts tree) (get_or puts k d).path (get_or puts j e).path well (paths k d lt)
        (ap is_dir (outcome_target base tree puts tree (get_or puts k d) rises p_in) ∙ no_dir_of base tree (get_or puts k d).want other) low

-- ---- the numbered writes

module _ (puts made : List Put) (is : IsNumbered puts made) where
  -- what holds of the writes and doesn't look at the bytes of files
  numbered_all : (P : Put → Type 0) → ((n : ℕ) (p : Put) → P p → P (record { path = p.path; want = staged_want n p.want })) → All P puts → All P made
  numbered_all P staged_so all = subst (All P) (sym is.writes) (all_with_numbers P P (λ p h. h) staged_so is.numbers puts all)

  pub numbered_named : (base : Name) → All (λ p. CanBeNamed base p.path) puts → All (λ p. CanBeNamed base p.path) made
  numbered_named base named = numbered_all (λ p. CanBeNamed base p.path) (λ n p h. h) named

  numbered_below : (p : Put) → All (λ q. IsTrue (is_below p.path q.path) → q.want ≡ want.Nothing) puts → All (λ q. IsTrue (is_below p.path q.path) → q.want ≡ want.Nothing) made
  numbered_below p all = numbered_all (λ q. IsTrue (is_below p.path q.path) → q.want ≡ want.Nothing) (λ n q h low. staged_nothing n q.want (h low)) all

  numbered_nothing : All (λ p. is_dir_want p.want ≡ false → All (λ q. IsTrue (is_below p.path q.path) → q.want ≡ want.Nothing) puts) puts
      → All (λ p. is_dir_want p.want ≡ false → All (λ q. IsTrue (is_below p.path q.path) → q.want ≡ want.Nothing) made) made
  numbered_nothing all = subst (All (λ p. is_dir_want p.want ≡ false → All (λ q. IsTrue (is_below p.path q.path) → q.want ≡ want.Nothing) made)) (sym is.writes)
      (all_with_numbers (λ p. is_dir_want p.want ≡ false → All (λ q. IsTrue (is_below p.path q.path) → q.want ≡ want.Nothing) puts)
      (λ p. is_dir_want p.want ≡ false → All (λ q. IsTrue (is_below p.path q.path) → q.want ≡ want.Nothing) made)
      (λ p h other. numbered_below p (h other)) (λ n p h other. numbered_below p (h (sym (staged_dir n p.want) ∙ other))) is.numbers puts all)

  pub numbered_can : (tree : Tree) → AllCanBePut puts tree → AllCanBePut made tree
  numbered_can tree can = subst (All (CanBePut made tree)) (sym is.writes)
      (all_with_numbers (CanBePut puts tree) (CanBePut made tree)
      (λ p h. record {
        above = λ q q_path low free. h.above q q_path low (sym (numbered_targets puts made q is) ∙ free);
        below = λ other q low free. h.below other q low (sym (numbered_targets puts made q is) ∙ free);
      })
      (λ n p h. record {
        above = λ q q_path low free. h.above q q_path low (sym (numbered_targets puts made q is) ∙ free);
        below = λ other q low free. h.below (sym (staged_dir n p.want) ∙ other) q low (sym (numbered_targets puts made q is) ∙ free);
      }) is.numbers puts can)

  pub numbered_loggable : (base : Name) (tree : Tree) → Rises puts → All (λ p. IsTrue (is_path p.path)) made → All (λ p. IsFormed p.want) made → All (λ p. IsTrue (is_path p.path)) puts
      → All (λ p. CanBeNamed base p.path) puts → AreLogged base made → WellFormed (outcome base puts tree) → IsLoggable base made
  numbered_loggable base tree rises paths formed old_paths named logged well = record {
    write_set = record { rises = numbered_rises puts made is rises; paths = paths; formed = formed; nothing_below = numbered_nothing (nothing_below_from base puts tree rises old_paths well) };
    named = numbered_named base named;
    logged = logged;
  }

-- ---- the log is written

-- each image of a moment at which the commit flag isn't set, nor its name unsynced
image_before : {D : Type 0} (disk : DiskModel D) (base : Name) (old : D) → is_committed base (disk.reads old) ≡ false → disk.unsynced old (gate base) ≡ false
    → (image : Tree) → IsImageOf disk old image → IsAsBefore disk base old image
image_before disk base old clear synced image is = (image, is, at_rest (ap is_flag (is.synced (gate base) synced) ∙ clear) (λ q out. refl))

module _ {D : Type 0} (disk : DiskModel D) (laws : IsDisk disk) (base : Name) (path : is_path base ≡ true) (old : D) (can : HasNoFlag disk base old) where
  -- an image whose commit flag isn't set, and that stores the same as what the disk read
  pub as_before : (image : Tree) → is_committed base image ≡ false → StoresSame base image (disk.reads old) → IsAsBefore disk base old image
  as_before image clear same = (disk.reads old, reads_image laws old, at_rest clear same)

  -- until the first sync is done
  pub before_sync : (new : D) → Confined disk (Among no_name) old new → LeavesOnly disk old new (IsAsBefore disk base old)
  before_sync new run = leaves_weaker each run.images
    where
      each : (image : Tree) → DiffersOnlyAt (IsUnsyncedOr disk old (Among no_name)) (disk.reads old) image → IsAsBefore disk base old image
      each image differs = image_before disk base old can.flag_clear can.flag_synced image (record {
        well_formed = differs.well_formed;
        synced = λ p none. differs.agrees p (λ h. ⊎_elim (λ was. absurd (cc (none, was))) (λ is. absurd (cc is)) h);
      })

  -- while the base is made and the log is written
  pub after_sync : (mid new : D) → disk.reads mid ≡ disk.reads old → IsSynced disk mid → Confined disk (Among (is_log_or_staged base)) mid new
      → LeavesOnly disk mid new (IsAsBefore disk base old)
  after_sync mid new is synced run = leaves_weaker each run.images
    where
      each : (image : Tree) → DiffersOnlyAt (IsUnsyncedOr disk mid (Among (is_log_or_staged base))) (disk.reads mid) image → IsAsBefore disk base old image
      each image differs =
          let agree = image_agrees disk mid (is_log_or_staged base) image synced differs in
          as_before image
          (ap is_flag (agree (gate base) (gate_not_written base path) ∙ ap (λ (t : Tree). get t (gate base)) is) ∙ can.flag_clear)
          (λ q out. agree q (⊎_elim (λ h. not_false (is_own base q) (log_or_staged_own base q h) out) (λ h. h) (cases_Bool (is_log_or_staged base q))) ∙ ap (λ (t : Tree). get t q) is)

-- ---- the tree with the log

-- a staged file that a write names is named by its last name
staged_at_decimal : (puts : List Put) (k : ℕ) → names_staged puts k ≡ true → names_staged_at puts (decimal k) ≡ true
staged_at_decimal [] k named = absurd (cc named)
staged_at_decimal (p ∷ puts) k named = ⊎_elim
    (λ here. or_left (is_staged_at (decimal k) p.want) (names_staged_at puts (decimal k)) (at p.want here))
    (λ later. or_right (is_staged_at (decimal k) p.want) (names_staged_at puts (decimal k)) (staged_at_decimal puts k later))
    (or_cases (is_staged_as k p.want) (names_staged puts k) named)
  where
    equal : (m n : ℕ) → (m == n) ≡ true → m ≡ n
    equal m n h = grind (arith, nat_tests)

    at : (w : Want) → is_staged_as k w ≡ true → is_staged_at (decimal k) w ≡ true
    at want.Nothing is = absurd (cc is)
    at (want.Dir mode) is = absurd (cc is)
    at (want.File mode bytes) is = absurd (cc is)
    at (want.Link target) is = absurd (cc is)
    at (want.Staged mode number size name) is = ap (λ (n : ℕ). same_name (decimal n) (decimal k)) (equal number k is) ∙ same_itself (decimal k)

module _ (base : Name) (path : is_path base ≡ true) (dir : is_path (staged base) ≡ true) (puts made : List Put) (is : IsNumbered puts made) (bytes : List ℕ) (tree : Tree) where
  pub log_stands : get (with_log base puts made bytes tree) (log base) ≡ Some (node.File 384 bytes)
  log_stands = get-own_file_here (log base) bytes (with_staged base puts made (with_base base tree))

  -- what isn't within the directory of staged bytes stays while it is written
  stage_elsewhere : (q : Name) → is_within (staged base) q ≡ false → get (with_staged base puts made (with_base base tree)) q ≡ get (with_base base tree) q
  stage_elsewhere q out = staged_elsewhere base path dir puts made (with_base base tree) q out

  pub with_log_base : is_dir (get (with_log base puts made bytes tree) base) ≡ true
  with_log_base =
      ap is_dir (get-own_file_other (log base) bytes (with_staged base puts made (with_base base tree)) base (base_not_in_log base path)
      ∙ stage_elsewhere base (base_not_in_staged base path)) ∙ base_stands base tree

  -- at every name but the journal's own nothing changed
  pub with_log_same : StoresSame base (with_log base puts made bytes tree) (with_base base tree)
  with_log_same q out =
      get-own_file_other (log base) bytes (with_staged base puts made (with_base base tree)) q (no q (λ within. in_log base q within) out (is_within (log base) q) refl)
      ∙ stage_elsewhere q (no q (λ within. in_staged base q within) out (is_within (staged base) q) refl)
    where
      no : (q : Name) {b : Bool} → (b ≡ true → is_own base q ≡ true) → is_own base q ≡ false → (c : Bool) → b ≡ c → b ≡ false
      no q own out true is = absurd (cc (own is, out))
      no q own out false is = is

  log_agrees_staged : AgreesStaged base (with_log base puts made bytes tree) (with_staged base puts made (with_base base tree))
  log_agrees_staged q within = get-own_file_other (log base) bytes (with_staged base puts made (with_base base tree)) q (staged_apart_log base path q within)

  -- the files of staged writes are kept
  keeps : ((k : ℕ) → names_staged puts k ≡ true → k < 2 ^ 64) → Keeps base path dir puts (with_stage (staged base) puts (with_base base tree)) (with_base base tree)
  keeps fits k named = (
    strays_kept puts (staged base) dir (staged_not_root base path) (with_base (staged base) (with_base base tree)) (children (with_base (staged base) (with_base base tree)) (staged base))
        (decimal k) (decimal_plain k (fits k named)) (named_at puts k named)
        ∙ get-base_other (staged base) (with_base base tree) (staged_file base k) (file_differs k),
    fits k named,
  )
    where
      named_at : (puts : List Put) (k : ℕ) → names_staged puts k ≡ true → names_staged_at puts (decimal k) ≡ true
      named_at puts k named = staged_at_decimal puts k named

      file_differs : (k : ℕ) → same_name (staged_file base k) (staged base) ≡ false
      file_differs k = ⊎_elim
          (λ same. absurd (cc (file_longer base path k, ap (is_within (staged_file base k)) (sym (same_means (staged_file base k) (staged base) same)) ∙ within_itself (staged_file base k))))
          (λ other. other) (cases_Bool (same_name (staged_file base k) (staged base)))

  -- what the numbered writes take
  pub log_holds : ((k : ℕ) → names_staged puts k ≡ true → k < 2 ^ 64) → AllStaged base tree puts
      → (map (resolve base (with_log base puts made bytes tree)) made ≡ map (resolve base (with_base base tree)) puts) × AllStaged base (with_log base puts made bytes tree) made
  log_holds fits stand = (
    resolve_all_same base path (with_log base puts made bytes tree) (with_staged base puts made (with_base base tree)) log_agrees_staged made ∙ all.0,
    all_staged_same base path (with_staged base puts made (with_base base tree)) (with_log base puts made bytes tree) (λ q within. sym (log_agrees_staged q within)) made all.1,
  )
    where
      stand_based : AllStaged base (with_base base tree) puts
      stand_based = all_staged_same base path tree (with_base base tree) (λ q within. sym (get-base_other base tree q (base_differs q within))) puts stand
        where
          base_differs : (q : Name) → is_within (staged base) q ≡ true → same_name q base ≡ false
          base_differs q within = ⊎_elim (λ same. absurd (cc (within, ap (is_within (staged base)) (same_means q base same), base_not_in_staged base path))) (λ other. other) (cases_Bool (same_name q base))

      free : All (IsFree base path dir puts) is.numbers
      free = λ k d lt. (is.free.free k d lt, small (is.fit k d lt))
        where
          small : {n : ℕ} → n < 2 ^ 32 → n < 2 ^ 64
          small lt = omega (arith, lt)

      all : (map (resolve base (with_staged base puts made (with_base base tree))) made ≡ map (resolve base (with_base base tree)) puts) × AllStaged base (with_staged base puts made (with_base base tree)) made
      all = subst (λ (l : List Put). (map (resolve base (with_staged base puts l (with_base base tree))) l ≡ map (resolve base (with_base base tree)) puts) × AllStaged base (with_staged base puts l (with_base base tree)) l) (sym is.writes)
          (written_holds base path dir puts is.numbers (with_stage (staged base) puts (with_base base tree)) (with_base base tree) is.free.rise free (keeps fits) stand_based)

-- ---- a disk on which the log was written

-- what the numbered writes say of the writes
all_back : (P Q : Put → Type 0) → ((p : Put) → P p → Q p) → ((n : ℕ) (p : Put) → P (record { path = p.path; want = staged_want n p.want }) → Q p) → (numbers : List ℕ) (puts : List Put)
    → All P (with_numbers numbers puts) → All Q puts
all_back P Q same back numbers [] all = λ k d lt. absurd (omega (arith, lt))
all_back P Q same back [] (p ∷ puts) all = All-weaker P Q same (p ∷ puts) all
all_back P Q same back (n ∷ numbers) (p ∷ puts) all =
    let rest = with_numbers (cond (is_file_want p.want) numbers (n ∷ numbers)) puts in
    All-cons Q p puts (back n p (All-head P (record { path = p.path; want = staged_want n p.want }) rest all))
    (all_back P Q same back (cond (is_file_want p.want) numbers (n ∷ numbers)) puts (All-tail P (record { path = p.path; want = staged_want n p.want }) rest all))

abbrev FitsStaged : Want → Type 0
FitsStaged want.Nothing = Unit {0}
FitsStaged (want.Dir mode) = Unit {0}
FitsStaged (want.File mode bytes) = Unit {0}
FitsStaged (want.Link target) = Unit {0}
FitsStaged (want.Staged mode number size name) = number < 2 ^ 64

formed_fits : (w : Want) → IsFormed w → FitsStaged w
formed_fits want.Nothing formed = tt
formed_fits (want.Dir mode) formed = tt
formed_fits (want.File mode bytes) formed = tt
formed_fits (want.Link target) formed = tt
formed_fits (want.Staged mode number size name) formed = omega (arith, formed.number_fits)

formed_back : (n : ℕ) (w : Want) → IsFormed (staged_want n w) → FitsStaged w
formed_back n want.Nothing formed = tt
formed_back n (want.Dir mode) formed = tt
formed_back n (want.File mode bytes) formed = tt
formed_back n (want.Link target) formed = tt
formed_back n (want.Staged mode number size name) formed = omega (arith, formed.number_fits)

staged_fits : (puts : List Put) → All (λ p. FitsStaged p.want) puts → (k : ℕ) → names_staged puts k ≡ true → k < 2 ^ 64
staged_fits [] fits k named = absurd (cc named)
staged_fits (p ∷ puts) fits k named = ⊎_elim
    (λ here. at p.want (All-head (λ (x : Put). FitsStaged x.want) p puts fits) here)
    (λ later. staged_fits puts (All-tail (λ (x : Put). FitsStaged x.want) p puts fits) k later)
    (or_cases (is_staged_as k p.want) (names_staged puts k) named)
  where
    at : (w : Want) → FitsStaged w → is_staged_as k w ≡ true → k < 2 ^ 64
    at want.Nothing fit is = absurd (cc is)
    at (want.Dir mode) fit is = absurd (cc is)
    at (want.File mode bytes) fit is = absurd (cc is)
    at (want.Link target) fit is = absurd (cc is)
    at (want.Staged mode number size name) fit is = let same = same_number number k is in omega (arith, same, fit)

module _ (puts made : List Put) (is : IsNumbered puts made) where
  pub paths_back : All (λ p. IsTrue (is_path p.path)) made → All (λ p. IsTrue (is_path p.path)) puts
  paths_back all = all_back (λ p. IsTrue (is_path p.path)) (λ p. IsTrue (is_path p.path)) (λ p h. h) (λ n p h. h) is.numbers puts (subst (All (λ p. IsTrue (is_path p.path))) is.writes all)

  pub numbers_fit : All (λ p. IsFormed p.want) made → (k : ℕ) → names_staged puts k ≡ true → k < 2 ^ 64
  numbers_fit formed = staged_fits puts (all_back (λ p. IsFormed p.want) (λ p. FitsStaged p.want) (λ p h. formed_fits p.want h) (λ n p h. formed_back n p.want h) is.numbers puts
      (subst (All (λ p. IsFormed p.want)) is.writes formed))

-- a formed list without bytes of files can be logged in a directory whose path isn't too long
pub logged_from : (base : Name) → is_path base ≡ true → length base ≤ 1011 → (made : List Put) → HaveNoBytes made → All (λ p. IsFormed p.want) made → AreLogged base made
logged_from base path short made no' formed k d lt = at (get_or made k d).want (no' k d lt) (formed k d lt)
  where
    at : (w : Want) → is_file_want w ≡ false → IsFormed w → CanBeLogged base w
    at want.Nothing no_file formed = tt
    at (want.Dir mode) no_file formed = tt
    at (want.File mode bytes) no_file formed = absurd (cc no_file)
    at (want.Link target) no_file formed = tt
    at (want.Staged mode number size name) no_file formed = staged_short base path short number formed.number_fits

before_back : (numbers : List ℕ) (p : Put) (puts : List Put) (want : Want) → ComesBefore (record { path = p.path; want = want }) (with_numbers numbers puts) → ComesBefore p puts
before_back numbers p [] want before = tt
before_back [] p (q ∷ puts) want before = before
before_back (n ∷ numbers) p (q ∷ puts) want before = before

with_numbers_rise : (numbers : List ℕ) (puts : List Put) → Rises (with_numbers numbers puts) → Rises puts
with_numbers_rise numbers [] rises = tt
with_numbers_rise [] (p ∷ puts) rises = rises
with_numbers_rise (n ∷ numbers) (p ∷ puts) rises =
    let rest = cond (is_file_want p.want) numbers (n ∷ numbers) in
    (before_back rest p puts (staged_want n p.want) rises.0, with_numbers_rise rest puts rises.1)

pub rises_back : (puts made : List Put) → IsNumbered puts made → Rises made → Rises puts
rises_back puts made is rises = with_numbers_rise is.numbers puts (subst Rises is.writes rises)

pub same_length : (puts made : List Put) → IsNumbered puts made → length puts ≡ length made
same_length puts made is = sym (ap length is.writes ∙ same_count is.numbers puts)

-- what is asked of the disk, and what the log is
pub record IsWritten {D : Type 0} (disk : DiskModel D) (base : Name) (puts made : List Put) (bytes : List ℕ) (old mid : D) : Type 0 where
  pub path : is_path base ≡ true
  pub dir : is_path (staged base) ≡ true
  pub is_log : IsLogOf base puts made bytes
  pub can : CanApply disk base puts old
  pub reads : disk.reads mid ≡ with_log base puts made bytes (disk.reads old)

module _ {D : Type 0} (disk : DiskModel D) (base : Name) (puts made : List Put) (bytes : List ℕ) (old mid : D) (w : IsWritten disk base puts made bytes old mid) where
  loggable : IsLoggable base made
  loggable = numbered_loggable puts made w.is_log.numbered base (with_base base (disk.reads old)) w.is_log.rises w.is_log.paths w.is_log.formed (paths_back puts made w.is_log.numbered w.is_log.paths) w.can.named w.is_log.logged w.can.well_formed

  taken : (map (resolve base (with_log base puts made bytes (disk.reads old))) made ≡ map (resolve base (with_base base (disk.reads old))) puts) × AllStaged base (with_log base puts made bytes (disk.reads old)) made
  taken = log_holds base w.path w.dir puts made w.is_log.numbered bytes (disk.reads old) (numbers_fit puts made w.is_log.numbered w.is_log.formed) w.can.stand

  log_base : is_dir (get (with_log base puts made bytes (disk.reads old)) base) ≡ true
  log_base = with_log_base base w.path w.dir puts made w.is_log.numbered bytes (disk.reads old)

  log_same : StoresSame base (with_log base puts made bytes (disk.reads old)) (with_base base (disk.reads old))
  log_same = with_log_same base w.path w.dir puts made w.is_log.numbered bytes (disk.reads old)

  base_same : StoresSame base (with_base base (disk.reads old)) (disk.reads old)
  base_same q out = get-base_other base (disk.reads old) q (⊎_elim (λ same. absurd (cc (base_own base q same, out))) (λ other. other) (cases_Bool (same_name q base)))

  pub mid_same : StoresSame base (disk.reads mid) (disk.reads old)
  mid_same q out = ap (λ (t : Tree). get t q) w.reads ∙ log_same q out ∙ base_same q out

  -- the tree with all targets of the log is the goal
  pub goal_same : StoresSame base (outcome base made (disk.reads mid)) (goal base puts (disk.reads old))
  goal_same q out =
      ap (λ (t : Tree). get (outcome base made t) q) w.reads
      ∙ ap (λ (l : List Put). get (with_targets l (with_log base puts made bytes (disk.reads old))) q) taken.0
      ∙ same_targets base puts (map (resolve base (with_base base (disk.reads old))) puts) (target_resolved base (with_base base (disk.reads old)) puts) (with_log base puts made bytes (disk.reads old)) (with_base base (disk.reads old))
      (λ p free. log_same p (neither (is_own base p) (is_target puts p) free).0) q out

  log_can : AllCanBePut made (with_log base puts made bytes (disk.reads old))
  log_can = can_elsewhere base w.path made w.is_log.paths (numbered_named puts made w.is_log.numbered base w.can.named) (with_base base (disk.reads old)) (with_log base puts made bytes (disk.reads old))
      (λ q out. sym (log_same q (neither (is_own base q) (is_target made q) out).0)) (base_stands base (disk.reads old)) log_base
      (numbered_can puts made w.is_log.numbered (with_base base (disk.reads old)) w.can.can)

  pub is_prepared : is_committed base (disk.reads mid) ≡ false → IsSynced disk mid → IsPrepared disk base made mid
  is_prepared clear synced = record {
    has_log = subst (HasLog base made) (sym w.reads) (record {
      holds = record {
        mode = 384;
        bytes = bytes;
        file = log_stands base w.path w.dir puts made w.is_log.numbered bytes (disk.reads old);
        text = record { loggable = loggable; spelled = w.is_log.spelled };
      };
      can = record { loggable = loggable; stand = taken.1; can = log_can; base_stands = log_base };
    });
    flag_clear = clear;
    synced = synced;
  }

-- ---- the commit flag is set

module _ {D : Type 0} (disk : DiskModel D) (base : Name) (path : is_path base ≡ true) (puts : List Put) (old : D) (ready : IsPrepared disk base puts old) where
  log_of : IsLoggable base puts
  log_of = ready.has_log.can.loggable

  free_of_gate : (q : Name) → is_own base q ≡ false → is_within (gate base) q ≡ false
  free_of_gate q out = ⊎_elim (λ h. not_false (is_own base q) (in_gate base q h) out) (λ h. h) (cases_Bool (is_within (gate base) q))

  -- while the flag's file is written
  pub opening_leaves : (new : D) → Confined disk (Among (is_within (gate base))) old new → LeavesOnly disk old new (IsOldOrNew base puts (disk.reads old))
  opening_leaves new run = leaves_weaker each run.images
    where
      each : (image : Tree) → DiffersOnlyAt (IsUnsyncedOr disk old (Among (is_within (gate base)))) (disk.reads old) image → IsOldOrNew base puts (disk.reads old) image
      each image differs =
          let agree = image_agrees disk old (is_within (gate base)) image ready.synced differs in
          by_flag base image
          (λ set. inr (replay_image base path puts log_of.write_set.paths log_of.named (disk.reads old) image (outcome base puts (disk.reads old)) ready.has_log.holds ready.has_log.can.stand ready.has_log.can.can ready.has_log.can.base_stands
          (λ q out. agree q (neither (is_within (gate base) q) _ out).0) set (λ q out. refl)))
          (λ clear. inl (clear, λ q out. agree q (free_of_gate q out)))

  flag_other : (q : Name) → is_within (gate base) q ≡ false → get (with_flag base (disk.reads old)) q ≡ get (disk.reads old) q
  flag_other q out = get-own_file_other (gate base) (codes "O") (disk.reads old) q out

  base_stays : is_dir (get (with_flag base (disk.reads old)) base) ≡ true
  base_stays = ap is_dir (flag_other base (base_not_in_gate base path)) ∙ ready.has_log.can.base_stands

  -- the staged files are kept
  flag_staged : AgreesStaged base (with_flag base (disk.reads old)) (disk.reads old)
  flag_staged q within = flag_other q (staged_apart_gate base path q within)

  -- and then it is set
  pub is_flagged : (mid : D) → disk.reads mid ≡ with_flag base (disk.reads old) → IsSynced disk mid → IsCommitted disk base puts mid
  is_flagged mid is synced = record {
    has_log = subst (HasLog base puts) (sym is) (record {
      holds = record {
        mode = ready.has_log.holds.mode;
        bytes = ready.has_log.holds.bytes;
        text = ready.has_log.holds.text;
        file = flag_other (log base) (log_not_in_gate base path) ∙ ready.has_log.holds.file;
      };
      can = record {
        loggable = log_of;
        stand = all_staged_same base path (disk.reads old) (with_flag base (disk.reads old)) (λ q within. sym (flag_staged q within)) puts ready.has_log.can.stand;
        can = can_elsewhere base path puts log_of.write_set.paths log_of.named (disk.reads old) (with_flag base (disk.reads old))
            (λ q out. sym (flag_other q (free_of_gate q (neither (is_own base q) (is_target puts q) out).0))) ready.has_log.can.base_stands base_stays ready.has_log.can.can;
        base_stands = base_stays;
      };
    });
    flag_set = ap (is_committed base) is ∙ ap is_flag (get-own_file_here (gate base) (codes "O") (disk.reads old));
    synced = synced;
  }

  pub same_goal : StoresSame base (outcome base puts (with_flag base (disk.reads old))) (outcome base puts (disk.reads old))
  same_goal = same_outcome base path puts (with_flag base (disk.reads old)) (disk.reads old) flag_staged
      (λ q out. flag_other q (free_of_gate q (neither (is_own base q) (is_target puts q) out).0))

  flag_same : StoresSame base (with_flag base (disk.reads old)) (disk.reads old)
  flag_same q out = flag_other q (free_of_gate q out)

  -- the replay behind the flag
  pub replay_leaves : (mid new : D) → disk.reads mid ≡ with_flag base (disk.reads old) → LeavesOnly disk mid new (λ image. RecoversTo base image (outcome base puts (disk.reads mid)))
      → LeavesOnly disk mid new (IsOldOrNew base puts (disk.reads old))
  replay_leaves mid new is run = leaves_weaker each run
    where
      each : (image : Tree) → RecoversTo base image (outcome base puts (disk.reads mid)) → IsOldOrNew base puts (disk.reads old) image
      each image h = inr (recovers_same base image (outcome base puts (disk.reads mid)) (outcome base puts (disk.reads old)) h
          (subst (λ (t : Tree). StoresSame base (outcome base puts t) (outcome base puts (disk.reads old))) (sym is) same_goal))

  -- what readers see
  pub opening_seen : (new : D) → Confined disk (Among (is_within (gate base))) old new → UnlessFailed disk old new (IsVisible base (disk.reads old) (outcome base puts (disk.reads old)))
  opening_seen new run = unfailed_confined run (λ t agrees. visible_before base (disk.reads old) (outcome base puts (disk.reads old)) t (agrees_stores base (is_within (gate base)) t (disk.reads old) (in_gate base) agrees))

  pub replay_seen : (mid new : D) → disk.reads mid ≡ with_flag base (disk.reads old) → UnlessFailed disk mid new (IsVisible base (disk.reads mid) (outcome base puts (disk.reads mid)))
      → UnlessFailed disk mid new (IsVisible base (disk.reads old) (outcome base puts (disk.reads old)))
  replay_seen mid new is seen = unfailed_weaker (λ t. visible_same base (disk.reads mid) (disk.reads old) (outcome base puts (disk.reads mid)) (outcome base puts (disk.reads old)) t
      (subst (λ (u : Tree). StoresSame base u (disk.reads old)) (sym is) flag_same)
      (subst (λ (u : Tree). StoresSame base (outcome base puts u) (outcome base puts (disk.reads old))) (sym is) same_goal)) seen

-- ---- what is left of the staged bytes

file_kind : (o : Option Node) → is_file o ≡ true → (is_some o ≡ true) × (is_dir o ≡ false)
file_kind None file = absurd (cc file)
file_kind (Some (node.Dir mode)) file = absurd (cc file)
file_kind (Some (node.File mode bytes)) file = (refl, refl)
file_kind (Some (node.Link target)) file = absurd (cc file)

-- a staged file that a write names is a file
named_file : (base : Name) (tree : Tree) (puts : List Put) (k : ℕ) → AllStaged base tree puts → names_staged puts k ≡ true → is_file (get tree (staged_file base k)) ≡ true
named_file base tree [] k stand named = absurd (cc named)
named_file base tree (p ∷ puts) k stand named = ⊎_elim
    (λ here. at p.want (All-head (λ (x : Put). IsTrue (has_content base tree x.want)) p puts stand) here)
    (λ later. named_file base tree puts k (All-tail (λ (x : Put). IsTrue (has_content base tree x.want)) p puts stand) later)
    (or_cases (is_staged_as k p.want) (names_staged puts k) named)
  where
    at : (w : Want) → has_content base tree w ≡ true → is_staged_as k w ≡ true → is_file (get tree (staged_file base k)) ≡ true
    at want.Nothing stands is = absurd (cc is)
    at (want.Dir mode) stands is = absurd (cc is)
    at (want.File mode bytes) stands is = absurd (cc is)
    at (want.Link target) stands is = absurd (cc is)
    at (want.Staged mode number size name) stands is =
        let same = same_number number k is in
        ap (λ (n : ℕ). is_file (get tree (staged_file base n))) (sym same) ∙ (content_file (get tree (staged_file base number)) size name stands).0

-- where nothing else is left below the directory, no name is left beside the files themselves
only_files : (base : Name) (made : List Put) (tree : Tree) → WellFormed tree → AllStaged base tree made → HoldsNoOthers base made tree
    → (q : Name) → is_below (staged base) q ≡ true → ((k : ℕ) → names_staged made k ≡ true → q ≢ staged_file base k) → get tree q ≡ None
only_files base made tree well stand clear q low other = ⊎_elim (λ none. none) (λ stands. clear q low (λ k named. free stands k named)) (stands_or_not (get tree q))
  where
    free : is_some (get tree q) ≡ true → (k : ℕ) → names_staged made k ≡ true → is_within (staged_file base k) q ≡ false
    free stands k named = ⊎_elim
        (λ within. absurd (⊎_elim
        (λ same. other k named (same_means q (staged_file base k) same))
        (λ deep. below_file deep)
        (or_cases (same_name q (staged_file base k)) (is_below (staged_file base k) q) within)))
        (λ out. out) (cases_Bool (is_within (staged_file base k) q))
      where
        kind : (is_some (get tree (staged_file base k)) ≡ true) × (is_dir (get tree (staged_file base k)) ≡ false)
        kind = file_kind (get tree (staged_file base k)) (named_file base tree made k stand named)

        below_file : is_below (staged_file base k) q ≡ true → ⊥
        below_file deep = absurd (cc (stands, ap is_some (none_below tree (staged_file base k) q well (well.paths (staged_file base k) kind.0) kind.1 deep)))

-- all that is staged stays when the flag is set and the targets are put
committed_keeps : (base : Name) → is_path base ≡ true → (made : List Put) → All (λ p. CanBeNamed base p.path) made → (tree : Tree) → AgreesStaged base (committed base made tree) tree
committed_keeps base path made named tree q within =
    get_put_other (all_put base made (with_flag base tree)) (gate base) None q (neither (same_name q (gate base)) _ (staged_apart_gate base path q within)).0
    ∙ outcome_outside base (without_tree (with_flag base tree) (work base)) made (without_tree (with_flag base tree) (work base)) q (own_free base made named q (in_staged base q within))
    ∙ without_work base (with_flag base tree) q (staged_apart_work base path q within)
    ∙ get-own_file_other (gate base) (codes "O") tree q (staged_apart_gate base path q within)

-- ---- the whole

-- what holds where a change ended well
pub on_ok_end : {P S : Type 0} (told : Bool) (after new : Tree) (result : Result Unit Stop) (a b : ℕ) → Ended told after new result a b → IsTrue told → OnOk result S → (new ≡ after → S → P) → OnOk result P
on_ok_end told after new (Ok u) a b ended tells s so = so (ended tells) s
on_ok_end told after new (Err e) a b ended tells s so = tt

-- before the first call
pub nothing_yet : {D : Type 0} (disk : DiskModel D) → IsDisk disk → (base : Name) (puts : List Put) (old : D) → CanApply disk base puts old → LeavesOnly disk old old (IsBeforeOrAfter disk base puts old)
nothing_yet disk laws base puts old can = record {
  later = omega arith;
  each = λ image since. inl (image_before disk base old can.flag_clear can.flag_synced image (laws.only_now old image since));
  before = λ k image le since. inl since;
  kept = λ k image le since. since;
}

pub stopped_at_once : {D : Type 0} (disk : DiskModel D) (base : Name) (puts : List Put) (old : D) → CanApply disk base puts old → IsOneOf base puts (disk.reads old) (disk.reads old)
stopped_at_once disk base puts old can = inl (at_rest can.flag_clear (λ q out. refl))

-- ---- how it ends

pub ok_of_err : (P : Type 0) (Q : Stop → Type 0) (r : Result Unit Stop) → IsErrAnd r Q → OnOk r P
ok_of_err P Q (Ok u) is = absurd is
ok_of_err P Q (Err e) is = tt

memory_failed : (r : Result Unit Stop) (a b : ℕ) → IsErrAnd r (λ s. s ≡ Memory) → IsErrOf r Failed → Rose a b
memory_failed (Ok u) a b is failed = absurd is
memory_failed (Err e) a b is failed = absurd (cc (is, failed))

memory_stops : (r : Result Unit Stop) → IsErrAnd r (λ s. s ≡ Memory) → IfErr r IsDiskStop
memory_stops (Ok u) is = tt
memory_stops (Err e) is = subst IsDiskStop (sym is) tt

ended_failed : (told : Bool) (after new : Tree) (r : Result Unit Stop) (a b : ℕ) → Ended told after new r a b → IsErrOf r Failed → Rose a b
ended_failed told after new (Ok u) a b ended failed = absurd (cc failed)
ended_failed told after new (Err Failed) a b ended failed = ended
ended_failed told after new (Err Memory) a b ended failed = absurd (cc failed)
ended_failed told after new (Err (Refused refusal)) a b ended failed = absurd ended
ended_failed told after new (Err (Damaged path)) a b ended failed = absurd ended
ended_failed told after new (Err FarFailed) a b ended failed = absurd ended
ended_failed told after new (Err (FarDamaged path)) a b ended failed = absurd ended

ended_stops : (told : Bool) (after new : Tree) (r : Result Unit Stop) (a b : ℕ) → Ended told after new r a b → IfErr r IsDiskStop
ended_stops told after new (Ok u) a b ended = tt
ended_stops told after new (Err Failed) a b ended = tt
ended_stops told after new (Err Memory) a b ended = tt
ended_stops told after new (Err (Refused refusal)) a b ended = ended
ended_stops told after new (Err (Damaged path)) a b ended = ended
ended_stops told after new (Err FarFailed) a b ended = ended
ended_stops told after new (Err (FarDamaged path)) a b ended = ended

log_within : (base : Name) (puts : List Put) (q : Name) → is_log_or_staged base q ≡ true → is_own_or_target base puts q ≡ true
log_within base puts q h = or_left (is_own base q) (is_target puts q) (log_or_staged_own base q h)

replay_within : (base : Name) (puts made : List Put) → ((q : Name) → is_target made q ≡ is_target puts q) → (q : Name) → is_replay_name base made q ≡ true → is_own_or_target base puts q ≡ true
replay_within base puts made same q h = ⊎_elim
    (λ within. or_left (is_own base q) (is_target puts q) (in_gate base q within))
    (λ rest. ⊎_elim
    (λ within. or_left (is_own base q) (is_target puts q) (in_work base q within))
    (λ target. or_right (is_own base q) (is_target puts q) (sym (same q) ∙ target))
    (or_cases (is_within (work base) q) (is_target made q) rest))
    (or_cases (is_within (gate base) q) _ h)

module _ {D : Type 0} (disk : DiskModel D) (laws : IsDisk disk) (base : Name) (puts : List Put) (old : D) (can : IsTrue disk.tells → CanApply disk base puts old) where
  -- want of memory before the first call
  pub applies_nothing : (r : Result Unit Stop) → IsErrAnd r (λ s. s ≡ Memory) → Applies disk base puts old old r
  applies_nothing r is = record {
    any_moment = λ tells. nothing_yet disk laws base puts old (can tells);
    applied = λ tells. ok_of_err _ (λ s. s ≡ Memory) r is;
    cleared = λ tells. ok_of_err _ (λ s. s ≡ Memory) r is;
    stopped = λ tells. on_err r (stopped_at_once disk base puts old (can tells));
    confined = λ tells. confined_start laws (Among (is_own_or_target base puts)) old;
    visible = λ tells. unfailed_start old _;
    later = omega arith;
    failed = memory_failed r (disk.faults old) (disk.faults old) is;
    stops = memory_stops r is;
  }

  pub has_no_flag : IsTrue disk.tells → HasNoFlag disk base old
  has_no_flag tells = record { flag_clear = (can tells).flag_clear; flag_synced = (can tells).flag_synced }

  module _ (path : is_path base ≡ true) where
    first_seen : (mid : D) → Confined disk (Among (is_log_or_staged base)) old mid → UnlessFailed disk old mid (IsVisible base (disk.reads old) (goal base puts (disk.reads old)))
    first_seen mid run = unfailed_confined run (λ t agrees. visible_before base (disk.reads old) (goal base puts (disk.reads old)) t (agrees_stores base (is_log_or_staged base) t (disk.reads old) (log_or_staged_own base) agrees))

    flag_kept : (mid : D) → AgreesOutside (is_log_or_staged base) (disk.reads mid) (disk.reads old) → is_committed base (disk.reads old) ≡ false → is_committed base (disk.reads mid) ≡ false
    flag_kept mid outside clear = ap is_flag (outside (gate base) (gate_not_written base path)) ∙ clear

    -- the first part stopped
    pub applies_prepared : (change : Tree → Tree) (mid : D) (r : Result Unit Stop) (e : Stop) → IsErrAnd r (λ s. s ≡ e) → Makes disk (is_log_or_staged base) change old mid r
        → (IsTrue disk.tells → LeavesOnly disk old mid (IsAsBefore disk base old)) → Applies disk base puts old mid r
    applies_prepared change mid r e is made run = record {
      any_moment = λ tells. leaves_weaker (λ image h. inl h) (run tells);
      applied = λ tells. ok_of_err _ (λ s. s ≡ e) r is;
      cleared = λ tells. ok_of_err _ (λ s. s ≡ e) r is;
      stopped = λ tells. on_err r (inl (at_rest (flag_kept mid (made.outside tells) (can tells).flag_clear)
          (λ q out. made.outside tells q (⊎_elim (λ h. not_false (is_own base q) (log_or_staged_own base q h) out) (λ h. h) (cases_Bool (is_log_or_staged base q))))));
      confined = λ tells. confined_wider (log_within base puts) (made.confined tells);
      visible = λ tells. first_seen mid (made.confined tells);
      later = made.later;
      failed = ended_failed disk.tells (change (disk.reads old)) (disk.reads mid) r (disk.faults old) (disk.faults mid) made.ended;
      stops = ended_stops disk.tells (change (disk.reads old)) (disk.reads mid) r (disk.faults old) (disk.faults mid) made.ended;
    }

    module _ (made : List Put) (bytes : List ℕ) (targets : (q : Name) → is_target made q ≡ is_target puts q) (mid new : D) (written : IsTrue disk.tells → IsWritten disk base puts made bytes old mid) (r : Result Unit Stop)
        (others : IsTrue disk.tells → HoldsNoOthers base made (disk.reads mid)) where
      each_image : IsTrue disk.tells → (image : Tree) → IsOldOrNew base made (disk.reads mid) image → IsBeforeOrAfter disk base puts old image
      each_image tells image (inl before) = inl (as_before disk laws base path old (has_no_flag tells) image before.0
          (λ q out. before.1 q out ∙ mid_same disk base puts made bytes old mid (written tells) q out))
      each_image tells image (inr after) = inr (recovers_same base image (outcome base made (disk.reads mid)) (goal base puts (disk.reads old)) after (goal_same disk base puts made bytes old mid (written tells)))

      one_of : IsTrue disk.tells → IsOldOrNew base made (disk.reads mid) (disk.reads new) → IsOneOf base puts (disk.reads old) (disk.reads new)
      one_of tells (inl before) = inl (at_rest before.0 (λ q out. before.1 q out ∙ mid_same disk base puts made bytes old mid (written tells) q out))
      one_of tells (inr after) = inr (recovers_same base (disk.reads new) (outcome base made (disk.reads mid)) (goal base puts (disk.reads old)) after (goal_same disk base puts made bytes old mid (written tells)))

      at_rest_now : IsTrue disk.tells → (loggable_named : All (λ p. CanBeNamed base p.path) made) → IsPrepared disk base made mid → disk.reads new ≡ committed base made (disk.reads mid) → IsSynced disk new → IsAtRest disk base (goal base puts (disk.reads old)) new
      at_rest_now tells named ready done synced = record {
        stores = λ q out. ap (λ (t : Tree). get t q) done
            ∙ get_put_other (all_put base made (with_flag base (disk.reads mid))) (gate base) None q (gate_differs q out)
            ∙ same_all_put base path made (with_flag base (disk.reads mid)) q out
            ∙ same_goal disk base path made mid ready q out
            ∙ goal_same disk base puts made bytes old mid (written tells) q out;
        flag_clear = ap (is_committed base) done ∙ ap is_flag (get_put_here (all_put base made (with_flag base (disk.reads mid))) (gate base) None);
        synced = synced;
      }
        where
          gate_differs : (q : Name) → is_own base q ≡ false → same_name q (gate base) ≡ false
          gate_differs q out = ⊎_elim
              (λ same. absurd (cc (out, in_gate base q (or_left (same_name q (gate base)) _ same))))
              (λ other. other) (cases_Bool (same_name q (gate base)))

      holds_staged : IsTrue disk.tells → (named : All (λ p. CanBeNamed base p.path) made) → IsPrepared disk base made mid → disk.reads new ≡ committed base made (disk.reads mid) → HoldsStaged base puts (disk.reads new)
      holds_staged tells named ready done = record {
        made = made;
        numbered = (written tells).is_log.numbered;
        stand = stand_new;
        only = only_files base made (disk.reads new) (laws.reads_well_formed new) stand_new (λ q low free. kept q (below_within (staged base) q low) ∙ others tells q low free);
      }
        where
          kept : AgreesStaged base (disk.reads new) (disk.reads mid)
          kept q within = ap (λ (t : Tree). get t q) done ∙ committed_keeps base path made named (disk.reads mid) q within

          stand_new : AllStaged base (disk.reads new) made
          stand_new = all_staged_same base path (disk.reads mid) (disk.reads new) (λ q within. sym (kept q within)) made ready.has_log.can.stand

      -- both parts
      pub applies_whole : (change : Tree → Tree) → Makes {X = Unit {0}} disk (is_log_or_staged base) change old mid (Ok tt) → (IsTrue disk.tells → LeavesOnly disk old mid (IsAsBefore disk base old)) → (IsTrue disk.tells → IsSynced disk mid)
          → Makes disk (is_replay_name base made) (committed base made) mid new r → (IsTrue disk.tells → LeavesOnly disk mid new (IsOldOrNew base made (disk.reads mid)))
          → (IsTrue disk.tells → OnOk r (IsSynced disk new))
          → (IsTrue disk.tells → UnlessFailed disk mid new (IsVisible base (disk.reads mid) (outcome base made (disk.reads mid))))
          → Applies disk base puts old new r
      applies_whole change first first_run first_synced then then_run then_synced then_seen = record {
        any_moment = λ tells. leaves_then (leaves_weaker (λ image h. inl h) (first_run tells)) (leaves_weaker (each_image tells) (then_run tells));
        applied = λ tells. on_ok_end disk.tells (committed base made (disk.reads mid)) (disk.reads new) r (disk.faults mid) (disk.faults new) then.ended tells (then_synced tells)
            (λ done synced. at_rest_now tells (numbered_named puts made (written tells).is_log.numbered base (can tells).named) (ready tells) done synced);
        cleared = λ tells. on_ok_end disk.tells (committed base made (disk.reads mid)) (disk.reads new) r (disk.faults mid) (disk.faults new) then.ended tells (then_synced tells)
            (λ done synced. holds_staged tells (numbered_named puts made (written tells).is_log.numbered base (can tells).named) (ready tells) done);
        stopped = λ tells. on_err r (one_of tells ((then_run tells).each (disk.reads new) (laws.counts_now new (disk.now mid) (disk.reads new) (then_run tells).later (reads_image laws new))));
        confined = λ tells. confined_then (confined_wider (log_within base puts) (first.confined tells)) (confined_wider (replay_within base puts made targets) (then.confined tells));
        visible = λ tells. unfailed_then first.later then.later (first_seen mid (first.confined tells))
            (unfailed_weaker (λ t. visible_same base (disk.reads mid) (disk.reads old) (outcome base made (disk.reads mid)) (goal base puts (disk.reads old)) t
            (mid_same disk base puts made bytes old mid (written tells)) (goal_same disk base puts made bytes old mid (written tells))) (then_seen tells));
        later = omega (arith, first.later, then.later);
        failed = λ is. rose_before (disk.faults old) (disk.faults mid) (disk.faults new) first.later (ended_failed disk.tells (committed base made (disk.reads mid)) (disk.reads new) r (disk.faults mid) (disk.faults new) then.ended is);
        stops = ended_stops disk.tells (committed base made (disk.reads mid)) (disk.reads new) r (disk.faults mid) (disk.faults new) then.ended;
      }
        where
          ready : IsTrue disk.tells → IsPrepared disk base made mid
          ready tells = is_prepared disk base puts made bytes old mid (written tells) (flag_kept mid (first.outside tells) (can tells).flag_clear) (first_synced tells)

    pub prepared : (made : List Put) (bytes : List ℕ) (mid : D) → IsTrue disk.tells → IsWritten disk base puts made bytes old mid → AgreesOutside (is_log_or_staged base) (disk.reads mid) (disk.reads old) → IsSynced disk mid → IsPrepared disk base made mid
    prepared made bytes mid tells written outside synced = is_prepared disk base puts made bytes old mid written (flag_kept mid outside (can tells).flag_clear) synced
