-- What is known of a call from a state whose root the root recovers to, whatever the repository's disk tells or stores.
use Rattle.std.proofs.Common.{◌≡◌, ◌≤◌, ℕ, true, List, Some, Result, Ok, Err, IfSome, refl, sym, ap, ◌∙◌, subst, inl, inr, ⊎_elim, arith}
use Rattle.std.specs.Prelude.{◌⊎◌, IsTrue}
use Rattle.std.specs.FinMap.{get}
use Rattle.cny_laws.specs.system-core.cny-base.declared.refusal.Refusal.{Refusal}
use Rattle.cny_laws.specs.system-core.cny-base.declared.stop.Stop.{Stop}
use Rattle.repo_load.specs.cny-base.Flow.{SourceState}
use Rattle.cny_laws.specs.system-core.tree-disk.Disk.{DiskModel, IsDisk}
use Rattle.cny_laws.specs.system-core.tree-disk.Confined.{LeavesOnly}
use Rattle.cny_laws.specs.system-core.tree-disk.Unfailed.{UnlessFailed}
use Rattle.cny_laws.proofs.system-core.tree-disk.ConfinedLaws.{leaves_weaker}
use Rattle.cny_laws.proofs.system-core.tree-disk.Unfailed.{unfailed_start, unfailed_weaker}
use Rattle.cny_laws.specs.system-core.tree-journal.Recovery.{RecoversAsThen}
use Rattle.local_db.specs.declared.db.Db.{Db}
use Rattle.cny_laws.specs.declared.failure.Failure.{Failure}
use Rattle.cny_laws.specs.declared.opened.Opened.{Opened}
use Rattle.cny_laws.specs.Call.{CallState, OpensRoot, AreOpened, NotOpened, StopsForRoot, StopsForRepository}
use Rattle.cny_laws.specs.WholeCall.{CallEnds, HasEffect, Outcome, left_when, left_of, IsOpenedOnly, CallOnRoot}
use Rattle.cli_call.proofs.CallEnds.{small, next_any, no_root_effect, no_repo_effect, no_unread_effect, outcome_of, dir_missing, run_ends, shown_so, unread_ends}
use Rattle.cny_laws.specs.Shown.{IsShown, KeepsOthers}
use Rattle.cny_laws.specs.system-core.FixedDirs.{fixed_dirs}
use Rattle.cli_call.proofs.InputLaws.{some_is}
use Rattle.cli_call.specs.Runs.{after_opening, at_end}
use Rattle.cli_call.specs.Line.{Moment, RunsLine}
use Rattle.cny_laws.specs.Reading.{given, Gives, ReadsGiven}
use Rattle.cny_laws.specs.system-core.tree-journal.Recovered.{IsKept}
use Rattle.cny_laws.specs.Report.{End, status_of}
use Rattle.cli_call.proofs.RootLaws.{root_laws, state_dirs, opened_root_rests}
use Rattle.cny_laws.specs.RootOpening.{IsRootOpen}
use Rattle.cny_laws.specs.State.{State, Meaning, tree_of, Scope}
use Rattle.cny_laws.specs.Stops.{root_failure}
use Rattle.cny_laws.specs.Store.{OneOf, Recovers, IsEntryOr, RestsAt}
use Rattle.cli_call.proofs.StoreLaws.{never_damaged, nothing_done, rest_lives, rest_reads, none_yet}
use Rattle.cny_laws.specs.Stores.{root_store, repository_store}
use Rattle.cny_laws.proofs.system-core.Opened.{kept_so, never_blocked}
use Rattle.cny_laws.specs.system-core.cny-base.declared.stop.Stop.TheVariants as stop

-- ---- the fixed directories of the state

module _ {T P : Type 0} {root_disk : DiskModel T} (root_disk_laws : IsDisk root_disk) (before : CallState T P) (root_told : IsTrue root_disk.tells) (s : State) (recovers : Recovers root_store (root_disk.reads before.root) s.root) where
  dirs : fixed_dirs (tree_of s.root) ≡ fixed_dirs (root_disk.reads before.root)
  dirs = state_dirs (root_disk.reads before.root) s.root (root_disk_laws.reads_well_formed before.root) recovers

  pub fixed_state : (root : T) (db : Db) → IsRootOpen root_disk before.root root db → fixed_dirs (tree_of s.root) ≡ Ok tt
  fixed_state root db is_open = dirs ∙ is_open.fixed

-- ---- the root wasn't opened

module _ {T P : Type 0} {root_disk : DiskModel T} (repo_disk : DiskModel P) (root_disk_laws : IsDisk root_disk) (m : Meaning) (before now : CallState T P) where
  module _ (input : List ℕ) (root_told : IsTrue root_disk.tells) (s : State) (recovers : Recovers root_store (root_disk.reads before.root) s.root) where
    pub root_ends : (e : Stop) → OpensRoot root_disk repo_disk before.root now.root (Err e) → CallEnds (Outcome m s input) s s before.out now.out (Err (root_failure e))
    root_ends stop.Failed opens = inl refl
    root_ends stop.Memory opens = inl refl
    root_ends (stop.Refused r) opens = (dir_missing m s input r (dirs root_disk_laws before root_told s recovers ∙ ⊎_elim (λ log. absurd (never_blocked log recovers.recovers)) (λ is. is) (opens.stops.told root_told).cause), refl)
    root_ends (stop.Damaged path) opens = absurd (never_damaged root_laws root_disk before.root now.root path s.root root_told opens.stops recovers (opens.from root_told s.root recovers).reads)
    root_ends stop.FarFailed opens = absurd opens.stops
    root_ends (stop.FarDamaged path) opens = absurd opens.stops

  module _ (root_told : IsTrue root_disk.tells) (s : State) (recovers : Recovers root_store (root_disk.reads before.root) s.root) where
    pub root_left : (e : Stop) → OpensRoot root_disk repo_disk before.root now.root (Err e) → now.input ≡ before.input → status_of (Err (root_failure e)) ≤ 2 → IfSome before.input.left (λ input. now.input.left ≡ Some (left_of m s input))
    root_left (stop.Refused r) opens unread le = some_is before.input.left (λ input is.
        let missing : fixed_dirs (tree_of s.root) ≡ Err r = dirs root_disk_laws before root_told s recovers ∙ ⊎_elim (λ log. absurd (never_blocked log recovers.recovers)) (λ x. x) (opens.stops.told root_told).cause in
        ap (λ (x : SourceState). x.left) unread ∙ is ∙ ap Some (sym (ap (λ (d : Result (Unit {0}) Refusal). left_when d m input) missing)))
    root_left stop.Failed opens unread le = absurd (omega (arith, le))
    root_left stop.Memory opens unread le = absurd (omega (arith, le))
    root_left (stop.Damaged path) opens unread le = absurd (omega (arith, le))
    root_left stop.FarFailed opens unread le = absurd opens.stops
    root_left (stop.FarDamaged path) opens unread le = absurd opens.stops

-- ---- from a state

module _ {T P : Type 0} {root_disk : DiskModel T} {repo_disk : DiskModel P} (root_disk_laws : IsDisk root_disk) (scope : Scope) (m : Meaning) (before now : CallState T P)
    (input : List ℕ) (root_told : IsTrue root_disk.tells) (s : State) (recovers : Recovers root_store (root_disk.reads before.root) s.root) where
  -- the root was opened at most
  root_stopped : (e : Stop) → OpensRoot root_disk repo_disk before.root now.root (Err e) → StopsForRoot root_disk repo_disk before now (Err (root_failure e)) → CallOnRoot root_disk repo_disk m input s before now (Err (root_failure e))
  root_stopped e opens stopped = record {
    next = s;
    ends = inr (root_ends repo_disk root_disk_laws m before now input root_told s recovers e opens);
    is_next = inl refl;
    stays = refl;
    root = inl (opens.from root_told s.root recovers).images;
    pair = inl (record { failure = stopped.failure; is = stopped.is; stops = inl stopped.stops; unread = stopped.unread; silent = stopped.silent });
    rests = λ h. absurd (no_root_effect e h);
    reads = inl (opens.from root_told s.root recovers).reads;
    outside = λ clear q out left. (opens.from root_told s.root recovers).outside clear q out;
    seen = record {
      ready = now.root;
      reached = inr (refl, stopped);
      recovery_later = opens.later;
      command_later = omega arith;
      recovery = (opens.from root_told s.root recovers).seen;
      command = unfailed_start now.root (IsShown (Outcome m s input) s (root_disk.reads now.root));
      outside = λ q out left. refl;
    };
  }

  repository_stopped : (end : End) (stopped : StopsForRepository root_disk repo_disk before now end) → CallOnRoot root_disk repo_disk m input s before now end
  repository_stopped end stopped =
      let at = stopped.stops in
      let first = at.opens_root in
      record {
        next = s;
        ends = inl stopped;
        is_next = inl refl;
        stays = refl;
        root = inl (first.from root_told s.root recovers).images;
        pair = inl (record { failure = stopped.failure; is = stopped.is; stops = inr stopped.stops; unread = stopped.unread; silent = stopped.silent });
        rests = λ h. absurd (no_repo_effect at.stop (subst HasEffect (stopped.is ∙ ap Err at.is) h));
        reads = inl (first.from root_told s.root recovers).reads;
        outside = λ clear q out left. (first.from root_told s.root recovers).outside clear q out;
        seen = record {
          ready = now.root;
          reached = inl (first.opened root_told).reached;
          recovery_later = first.later;
          command_later = omega arith;
          recovery = (first.from root_told s.root recovers).seen;
          command = unfailed_start now.root (IsShown (Outcome m s input) s (root_disk.reads now.root));
          outside = λ q out left. refl;
        };
      }

  pub root_unopened : (end : End) → NotOpened root_disk repo_disk before now end → CallOnRoot root_disk repo_disk m input s before now end
  root_unopened end stops = ⊎_elim
      (λ at.
      let is : end ≡ Err (root_failure at.stop) = stops.is ∙ ap Err at.is in
      let stopped : StopsForRoot root_disk repo_disk before now end = record { failure = stops.failure; is = stops.is; stops = at; unread = stops.unread; silent = stops.silent } in
      subst (λ (x : End). CallOnRoot root_disk repo_disk m input s before now x) (sym is) (root_stopped at.stop at.opens (subst (λ (x : End). StopsForRoot root_disk repo_disk before now x) is stopped)))
      (λ at. repository_stopped end (record { failure = stops.failure; is = stops.is; stops = at; unread = stops.unread; silent = stops.silent }))
      stops.stops

  -- ---- both were opened

  module _ (root : T) (repo : P) (opened opened' : Opened) (opens : AreOpened root_disk repo_disk before.root root before.repo repo opened) where
    fixed : fixed_dirs (tree_of s.root) ≡ Ok tt
    fixed = fixed_state root_disk_laws before root_told s recovers root opened.db (opens.opens_root.opened root_told)

    root_rests : RestsAt root_store root_disk root s.root
    root_rests = opened_root_rests before.root root opened.db s.root (opens.opens_root.opened root_told) recovers

    -- the input wasn't read
    pub root_unread : (e : Failure) → ReadsGiven m.takes_input before.input now.input (Err e) → Gives m.takes_input input (Err e) → at_end root_disk repo_disk now opened' ≡ after_opening root_disk repo_disk before root repo opened → CallOnRoot root_disk repo_disk m input s before now (Err e)
    root_unread e reads gives same =
        let same_root : now.root ≡ root = ap (λ (x : Moment T P). x.at.root) same in
        record {
          next = s;
          ends = inr (unread_ends m s input fixed before.out now.out e reads gives);
          is_next = inl refl;
          stays = refl;
          root = inl (subst (λ (d : T). LeavesOnly root_disk before.root d (IsEntryOr root_store root_disk before.root s.root)) (sym same_root) (opens.opens_root.from root_told s.root recovers).images);
          pair = inr (record {
            root = root;
            repo = repo;
            opened = opened;
            opens = opens;
            root_lives = subst (λ (d : T). LeavesOnly root_disk root d (OneOf root_store s.root s.root)) (sym same_root) (leaves_weaker (λ image h. inl h) (rest_lives root_laws root_disk_laws root root s.root (nothing_done root_disk_laws root) root_rests));
            repo_lives = tt;
          });
          rests = λ h. absurd (no_unread_effect e reads h);
          reads = inl (subst (λ (d : T). Recovers root_store (root_disk.reads d) s.root) (sym same_root) (rest_reads root_laws root s.root root_rests));
          outside = λ clear q out left. ap (λ (d : T). get (root_disk.reads d) q) same_root ∙ (opens.opens_root.from root_told s.root recovers).outside clear q out;
          seen = record {
            ready = root;
            reached = inl (opens.opens_root.opened root_told).reached;
            recovery_later = opens.opens_root.later;
            command_later = omega (arith, ap root_disk.faults same_root);
            recovery = (opens.opens_root.from root_told s.root recovers).seen;
            command = subst (λ (d : T). UnlessFailed root_disk root d (IsShown (Outcome m s input) s (root_disk.reads root))) (sym same_root) (unfailed_start root (IsShown (Outcome m s input) s (root_disk.reads root)));
            outside = λ q out left. ap (λ (d : T). get (root_disk.reads d) q) same_root;
          };
        }

    -- the command was performed
    pub root_run : (bytes : List ℕ) → ReadsGiven m.takes_input before.input now.input (Ok bytes) → given m.takes_input input ≡ Ok bytes → scope.of_root ≡ true → (end : End) → RunsLine root_disk repo_disk scope m bytes (after_opening root_disk repo_disk before root repo opened) (at_end root_disk repo_disk now opened') end → CallOnRoot root_disk repo_disk m input s before now end
    root_run bytes reads gives is end runs =
        let f = (runs.alone is).told root_told s root_rests in
        let others : KeepsOthers (Outcome m s input) s (root_disk.reads root) (root_disk.reads now.root) = λ q out left.
        f.outside q out (λ e of. left e (outcome_of m s input bytes (Ok e) fixed gives of)) in
        let ended : CallEnds (Outcome m s input) s f.next before.out now.out end = run_ends m s input fixed bytes gives before.out now.out f.next end f.ends in
        record {
          next = f.next;
          ends = inr ended;
          is_next = next_any (Outcome m s input) s f.next before.out now.out end ended;
          stays = f.stays;
          root = inr (record { opened = root; opening = (opens.opens_root.from root_told s.root recovers).images; lives = f.root.images });
          pair = inr (record { root = root; repo = repo; opened = opened; opens = opens; root_lives = f.root.images; repo_lives = tt });
          rests = λ h. f.root.rests (small end h);
          reads = f.root.reads;
          outside = λ clear q out left. others q out left ∙ (opens.opens_root.from root_told s.root recovers).outside clear q out;
          seen = record {
            ready = root;
            reached = inl (opens.opens_root.opened root_told).reached;
            recovery_later = opens.opens_root.later;
            command_later = runs.root_later;
            recovery = (opens.opens_root.from root_told s.root recovers).seen;
            command = unfailed_weaker (shown_so m s input fixed bytes gives) f.seen;
            outside = others;
          };
        }

-- ---- the repository

module _ {T P : Type 0} {root_disk : DiskModel T} {repo_disk : DiskModel P} (repo_disk_laws : IsDisk repo_disk) (before now : CallState T P) (repo_told : IsTrue repo_disk.tells) where
  untouched : now.repo ≡ before.repo → IsOpenedOnly root_disk repo_disk before now
  untouched same = record {
    images = subst (λ (d : P). LeavesOnly repo_disk before.repo d (RecoversAsThen repo_disk repository_store.base before.repo)) (sym same) (none_yet repo_disk_laws repository_store.base before.repo);
    kept = subst (λ (d : P). IsKept repository_store.base (repo_disk.reads before.repo) (repo_disk.reads d)) (sym same) (kept_so repository_store.base (repo_disk.reads before.repo));
  }

  pub unopened_only : (end : End) → NotOpened root_disk repo_disk before now end → IsOpenedOnly root_disk repo_disk before now
  unopened_only end stops = ⊎_elim
      (λ at. untouched at.same)
      (λ at. record { images = at.opens.images repo_told; kept = at.opens.kept repo_told })
      stops.stops

  pub opened_only : (root : T) (repo : P) (opened : Opened) → AreOpened root_disk repo_disk before.root root before.repo repo opened → now.repo ≡ repo → IsOpenedOnly root_disk repo_disk before now
  opened_only root repo opened opens same = record {
    images = subst (λ (d : P). LeavesOnly repo_disk before.repo d (RecoversAsThen repo_disk repository_store.base before.repo)) (sym same) (opens.opens.images repo_told);
    kept = subst (λ (d : P). IsKept repository_store.base (repo_disk.reads before.repo) (repo_disk.reads d)) (sym same) (opens.opens.kept repo_told);
  }
