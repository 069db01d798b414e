-- What is known of a call from a state to which both disks recover.
use Rattle.std.proofs.Common.{◌≡◌, ◌≤◌, ℕ, List, Ok, Err, refl, sym, ap, ◌∙◌, subst, inl, inr, ⊎_elim, arith}
use Rattle.std.specs.Prelude.{IsTrue}
use Rattle.std.specs.FinMap.{get}
use Rattle.cny_laws.specs.system-core.cny-base.declared.stop.Stop.{Stop}
use Rattle.cny_laws.specs.system-core.tree-disk.Disk.{DiskModel, IsDisk}
use Rattle.cny_laws.specs.system-core.tree-disk.Confined.{LeavesOnly}
use Rattle.cny_laws.specs.system-core.tree-disk.Unfailed.{UnlessFailed}
use Rattle.cny_laws.proofs.system-core.tree-disk.ConfinedLaws.{leaves_weaker}
use Rattle.cny_laws.proofs.system-core.tree-disk.Unfailed.{unfailed_start, unfailed_weaker}
use Rattle.cny_laws.specs.system-core.tree-journal.Recovery.{RecoversAsThen}
use Rattle.local_db.specs.declared.db.Db.{Db}
use Rattle.cny_laws.specs.declared.failure.Failure.{Failure}
use Rattle.cny_laws.specs.declared.opened.Opened.{Opened}
use Rattle.cny_laws.specs.Call.{CallState, OpensRoot, OpensRepository, AreOpened, NotOpened, StopsForRoot}
use Rattle.cny_laws.specs.WholeCall.{CallEnds, Outcome, RecoversBoth, CallFrom}
use Rattle.cli_call.proofs.CallEnds.{small, no_root_effect, no_repo_effect, no_unread_effect, outcome_of, read_left, run_ends, shown_so, unread_ends, unread_left}
use Rattle.cny_laws.specs.Shown.{IsShown, KeepsOthers}
use Rattle.cny_laws.specs.system-core.FixedDirs.{fixed_dirs}
use Rattle.cli_call.specs.Runs.{after_opening, at_end}
use Rattle.cli_call.specs.Line.{Moment, RunsLine}
use Rattle.cny_laws.specs.Reading.{given, Gives, ReadsGiven}
use Rattle.cny_laws.specs.Report.{End, status_of}
use Rattle.cli_call.proofs.RootLaws.{root_laws, opened_root_rests}
use Rattle.cli_call.proofs.RootStates.{fixed_state, root_ends, root_left}
use Rattle.cny_laws.specs.State.{State, Meaning, tree_of, Scope}
use Rattle.cny_laws.specs.Stops.{root_failure, repository_failure}
use Rattle.cny_laws.specs.Store.{IsStore, OneOf, Recovers, IsEntryOr, RestsAt}
use Rattle.cli_call.proofs.StoreLaws.{none_yet, never_damaged, nothing_done, rest_lives, rest_reads, opened_rests, kept_recovers}
use Rattle.cny_laws.specs.Stores.{root_store, repository_store}
use Rattle.cny_laws.proofs.system-core.Opened.{never_blocked}
use Rattle.cny_laws.specs.system-core.cny-base.declared.stop.Stop.TheVariants as stop

-- ---- from a state

module _ {T P : Type 0} {root_disk : DiskModel T} {repo_disk : DiskModel P} (root_disk_laws : IsDisk root_disk) (repo_disk_laws : IsDisk repo_disk) (repo_laws : IsStore repository_store) (scope : Scope) (m : Meaning) (before now : CallState T P)
    (input : List ℕ) (root_told : IsTrue root_disk.tells) (repo_told : IsTrue repo_disk.tells) (s : State) (recovers : RecoversBoth root_disk repo_disk before s) where
  -- ---- the root wasn't opened

  from_root : (e : Stop) → OpensRoot root_disk repo_disk before.root now.root (Err e) → StopsForRoot root_disk repo_disk before now (Err (root_failure e)) → CallFrom root_disk repo_disk m input s before now (Err (root_failure e))
  from_root e opens stopped = record {
    next = s;
    ends = root_ends repo_disk root_disk_laws m before now input root_told s recovers.root e opens;
    apart = inl refl;
    root = inl (opens.from root_told s.root recovers.root).images;
    repo = inl (subst (λ (d : P). LeavesOnly repo_disk before.repo d (RecoversAsThen repo_disk repository_store.base before.repo)) (sym stopped.stops.same) (none_yet repo_disk_laws repository_store.base before.repo));
    pair = inl (record { failure = stopped.failure; is = stopped.is; stops = inl stopped.stops; unread = stopped.unread; silent = stopped.silent });
    rests = λ h. absurd (no_root_effect e h);
    root_reads = inl (opens.from root_told s.root recovers.root).reads;
    repo_reads = inl (subst (λ (d : P). Recovers repository_store (repo_disk.reads d) s.repository) (sym stopped.stops.same) recovers.repo);
    outside = λ clear q out left. (opens.from root_told s.root recovers.root).outside clear q out;
    seen = record {
      ready = now.root;
      reached = inr (refl, stopped);
      recovery_later = opens.later;
      command_later = omega arith;
      recovery = (opens.from root_told s.root recovers.root).seen;
      command = unfailed_start now.root (IsShown (Outcome m s input) s (root_disk.reads now.root));
      outside = λ q out left. refl;
    };
    left = root_left repo_disk root_disk_laws m before now root_told s recovers.root e opens stopped.unread;
  }

  -- ---- the root was opened, and the repository wasn't

  repo_ends : (e : Stop) → OpensRepository root_disk repo_disk before.repo now.repo (Err e) → CallEnds (Outcome m s input) s s before.out now.out (Err (repository_failure e))
  repo_ends stop.Failed opens = inl refl
  repo_ends stop.Memory opens = inl refl
  repo_ends (stop.Refused r) opens = absurd (⊎_elim (λ log. never_blocked log recovers.repo.recovers) (λ is. absurd (cc is)) (opens.stops.told repo_told).cause)
  repo_ends (stop.Damaged path) opens = absurd (never_damaged repo_laws repo_disk before.repo now.repo path s.repository repo_told opens.stops recovers.repo (kept_recovers repo_laws (repo_disk.reads before.repo) (repo_disk.reads now.repo) s.repository (opens.kept repo_told) recovers.repo))
  repo_ends stop.FarFailed opens = absurd opens.stops
  repo_ends (stop.FarDamaged path) opens = absurd opens.stops

  repo_left : (e : Stop) → OpensRepository root_disk repo_disk before.repo now.repo (Err e) → status_of (Err (repository_failure e)) ≤ 2 → ⊥
  repo_left (stop.Refused r) opens le = ⊎_elim (λ log. never_blocked log recovers.repo.recovers) (λ is. absurd (cc is)) (opens.stops.told repo_told).cause
  repo_left stop.Failed opens le = absurd (omega (arith, le))
  repo_left stop.Memory opens le = absurd (omega (arith, le))
  repo_left (stop.Damaged path) opens le = absurd (omega (arith, le))
  repo_left stop.FarFailed opens le = absurd opens.stops
  repo_left (stop.FarDamaged path) opens le = absurd opens.stops

  from_repository : (e : Stop) (db : Db) → OpensRoot root_disk repo_disk before.root now.root (Ok db) → OpensRepository root_disk repo_disk before.repo now.repo (Err e) → NotOpened root_disk repo_disk before now (Err (repository_failure e)) → CallFrom root_disk repo_disk m input s before now (Err (repository_failure e))
  from_repository e db first opens stopped = record {
    next = s;
    ends = repo_ends e opens;
    apart = inl refl;
    root = inl (first.from root_told s.root recovers.root).images;
    repo = inl (opens.images repo_told);
    pair = inl stopped;
    rests = λ h. absurd (no_repo_effect e h);
    root_reads = inl (first.from root_told s.root recovers.root).reads;
    repo_reads = inl (kept_recovers repo_laws (repo_disk.reads before.repo) (repo_disk.reads now.repo) s.repository (opens.kept repo_told) recovers.repo);
    outside = λ clear q out left. (first.from root_told s.root recovers.root).outside clear q out;
    seen = record {
      ready = now.root;
      reached = inl (first.opened root_told).reached;
      recovery_later = first.later;
      command_later = omega arith;
      recovery = (first.from root_told s.root recovers.root).seen;
      command = unfailed_start now.root (IsShown (Outcome m s input) s (root_disk.reads now.root));
      outside = λ q out left. refl;
    };
    left = λ le. absurd (repo_left e opens le);
  }

  pub from_unopened : (end : End) → NotOpened root_disk repo_disk before now end → CallFrom root_disk repo_disk m input s before now end
  from_unopened end stops = ⊎_elim
      (λ at.
      let is : end ≡ Err (root_failure at.stop) = stops.is ∙ ap Err at.is in
      let stopped : StopsForRoot root_disk repo_disk before now end = record { failure = stops.failure; is = stops.is; stops = at; unread = stops.unread; silent = stops.silent } in
      subst (λ (x : End). CallFrom root_disk repo_disk m input s before now x) (sym is) (from_root at.stop at.opens (subst (λ (x : End). StopsForRoot root_disk repo_disk before now x) is stopped)))
      (λ at.
      let is : end ≡ Err (repository_failure at.stop) = stops.is ∙ ap Err at.is in
      subst (λ (x : End). CallFrom root_disk repo_disk m input s before now x) (sym is) (from_repository at.stop at.db at.opens_root at.opens (subst (λ (x : End). NotOpened root_disk repo_disk before now x) is stops)))
      stops.stops

  -- ---- both were opened

  module _ (root : T) (repo : P) (opened opened' : Opened) (opens : AreOpened root_disk repo_disk before.root root before.repo repo opened) where
    fixed : fixed_dirs (tree_of s.root) ≡ Ok tt
    fixed = fixed_state root_disk_laws before root_told s recovers.root root opened.db (opens.opens_root.opened root_told)

    root_rests : RestsAt root_store root_disk root s.root
    root_rests = opened_root_rests before.root root opened.db s.root (opens.opens_root.opened root_told) recovers.root

    repo_rests : RestsAt repository_store repo_disk repo s.repository
    repo_rests = opened_rests repo_laws before.repo repo opened.catalogue s.repository (opens.opens.opened repo_told) recovers.repo

    -- the input wasn't read

    pub from_unread : (e : Failure) → ReadsGiven m.takes_input before.input now.input (Err e) → Gives m.takes_input input (Err e) → at_end root_disk repo_disk now opened' ≡ after_opening root_disk repo_disk before root repo opened → CallFrom root_disk repo_disk m input s before now (Err e)
    from_unread e reads gives same =
        let same_root : now.root ≡ root = ap (λ (x : Moment T P). x.at.root) same in
        let same_repo : now.repo ≡ repo = ap (λ (x : Moment T P). x.at.repo) same in
        record {
          next = s;
          ends = unread_ends m s input fixed before.out now.out e reads gives;
          apart = inl refl;
          root = inl (subst (λ (d : T). LeavesOnly root_disk before.root d (IsEntryOr root_store root_disk before.root s.root)) (sym same_root) (opens.opens_root.from root_told s.root recovers.root).images);
          repo = inl (subst (λ (d : P). LeavesOnly repo_disk before.repo d (RecoversAsThen repo_disk repository_store.base before.repo)) (sym same_repo) (opens.opens.images repo_told));
          pair = inr (record {
            root = root;
            repo = repo;
            opened = opened;
            opens = opens;
            root_lives = subst (λ (d : T). LeavesOnly root_disk root d (OneOf root_store s.root s.root)) (sym same_root) (leaves_weaker (λ image h. inl h) (rest_lives root_laws root_disk_laws root root s.root (nothing_done root_disk_laws root) root_rests));
            repo_lives = subst (λ (d : P). LeavesOnly repo_disk repo d (OneOf repository_store s.repository s.repository)) (sym same_repo) (leaves_weaker (λ image h. inl h) (rest_lives repo_laws repo_disk_laws repo repo s.repository (nothing_done repo_disk_laws repo) repo_rests));
          });
          rests = λ h. absurd (no_unread_effect e reads h);
          root_reads = inl (subst (λ (d : T). Recovers root_store (root_disk.reads d) s.root) (sym same_root) (rest_reads root_laws root s.root root_rests));
          repo_reads = inl (subst (λ (d : P). Recovers repository_store (repo_disk.reads d) s.repository) (sym same_repo) (rest_reads repo_laws repo s.repository repo_rests));
          outside = λ clear q out left. ap (λ (d : T). get (root_disk.reads d) q) same_root ∙ (opens.opens_root.from root_told s.root recovers.root).outside clear q out;
          seen = record {
            ready = root;
            reached = inl (opens.opens_root.opened root_told).reached;
            recovery_later = opens.opens_root.later;
            command_later = omega (arith, ap root_disk.faults same_root);
            recovery = (opens.opens_root.from root_told s.root recovers.root).seen;
            command = subst (λ (d : T). UnlessFailed root_disk root d (IsShown (Outcome m s input) s (root_disk.reads root))) (sym same_root) (unfailed_start root (IsShown (Outcome m s input) s (root_disk.reads root)));
            outside = λ q out left. ap (λ (d : T). get (root_disk.reads d) q) same_root;
          };
          left = unread_left m s fixed e reads;
        }

    -- the command was performed

    module _ (bytes : List ℕ) (reads : ReadsGiven m.takes_input before.input now.input (Ok bytes)) (gives : given m.takes_input input ≡ Ok bytes) where
      pub from_run : (end : End) → RunsLine root_disk repo_disk scope m bytes (after_opening root_disk repo_disk before root repo opened) (at_end root_disk repo_disk now opened') end → CallFrom root_disk repo_disk m input s before now end
      from_run end runs =
          let f = runs.told root_told repo_told s (record { root = root_rests; repo = repo_rests }) in
          let others : KeepsOthers (Outcome m s input) s (root_disk.reads root) (root_disk.reads now.root) = λ q out left.
          f.outside q out (λ e of. left e (outcome_of m s input bytes (Ok e) fixed gives of)) in
          record {
            next = f.next;
            ends = run_ends m s input fixed bytes gives before.out now.out f.next end f.ends;
            apart = f.apart;
            root = inr (record { opened = root; opening = (opens.opens_root.from root_told s.root recovers.root).images; lives = f.root.images });
            repo = inr (record { opened = repo; opening = opens.opens.images repo_told; lives = f.repo.images });
            pair = inr (record { root = root; repo = repo; opened = opened; opens = opens; root_lives = f.root.images; repo_lives = f.repo.images });
            rests = λ h. record { root = f.root.rests (small end h); repo = f.repo.rests (small end h) };
            root_reads = f.root.reads;
            repo_reads = f.repo.reads;
            outside = λ clear q out left. others q out left ∙ (opens.opens_root.from root_told s.root recovers.root).outside clear q out;
            seen = record {
              ready = root;
              reached = inl (opens.opens_root.opened root_told).reached;
              recovery_later = opens.opens_root.later;
              command_later = runs.root_later;
              recovery = (opens.opens_root.from root_told s.root recovers.root).seen;
              command = unfailed_weaker (shown_so m s input fixed bytes gives) f.seen;
              outside = others;
            };
            left = λ le. read_left m s fixed bytes reads;
          }
