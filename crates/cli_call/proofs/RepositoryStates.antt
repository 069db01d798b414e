-- What is known of a call of a command that works on the repository alone, from a state whose repository its disk recovers to.
use Rattle.cny_laws.specs.Call.{AreOpened, CallState, NotOpened, OpensRepository, OpensRoot, StopsForRoot}
use Rattle.cny_laws.specs.WholeCall.{CallEnds, CallOnRepository, HasEffect, OwnOutcome}
use Rattle.local_db.specs.declared.db.Db.{Db}
use Rattle.cny_laws.specs.system-core.tree-disk.Disk.{DiskModel, IsDisk}
use Rattle.cny_laws.specs.Report.{End}
use Rattle.std.proofs.Common.{Err, List, Ok, Result, ap, inl, inr, refl, subst, sym, true, ℕ, ⊎_elim, ◌∙◌, ◌≡◌}
use Rattle.cny_laws.specs.Reading.{Gives, ReadsGiven, given}
use Rattle.cny_laws.specs.Store.{IsStore, OneOf, Recovers, RestsAt}
use Rattle.std.specs.Prelude.{IsTrue}
use Rattle.cny_laws.specs.system-core.tree-disk.Confined.{LeavesOnly}
use Rattle.cny_laws.proofs.system-core.tree-disk.ConfinedLaws.{leaves_weaker}
use Rattle.cny_laws.specs.State.{Meaning, Scope, State}
use Rattle.cli_call.specs.Runs.{after_opening, at_end}
use Rattle.cli_call.specs.Line.{Moment, RunsLine}
use Rattle.cny_laws.specs.system-core.tree-journal.Recovery.{RecoversAsThen}
use Rattle.cny_laws.specs.system-core.cny-base.declared.stop.Stop.{Stop}
use Rattle.cli_call.proofs.StoreLaws.{kept_recovers, never_damaged, none_yet, nothing_done, opened_rests, rest_lives, rest_reads}
use Rattle.cny_laws.proofs.system-core.Opened.{never_blocked}
use Rattle.cny_laws.specs.declared.failure.Failure.{Failure}
use Rattle.cny_laws.specs.declared.opened.Opened.{Opened}
use Rattle.cli_call.proofs.CallEnds.{next_any, own_ends, own_unread, no_repo_effect, no_root_effect, no_unread_effect, small}
use Rattle.cny_laws.specs.Stops.{repository_failure}
use Rattle.cny_laws.specs.Stores.{repository_store}
use Rattle.cny_laws.specs.system-core.cny-base.declared.stop.Stop.TheVariants as stop

-- the repository wasn't opened
stop_ends : {T P : Type 0} (root_disk : DiskModel T) {repo_disk : DiskModel P} → IsStore repository_store → (m : Meaning) (before now : CallState T P) (input : List ℕ) → IsTrue repo_disk.tells → (s : State) → Recovers repository_store (repo_disk.reads before.repo) s.repository
    → (e : Stop) → OpensRepository root_disk repo_disk before.repo now.repo (Err e) → CallEnds (OwnOutcome m s input) s s before.out now.out (Err (repository_failure e))
stop_ends root_disk {repo_disk} repo_laws m before now input repo_told s recovers stop.Failed opens = inl refl
stop_ends root_disk {repo_disk} repo_laws m before now input repo_told s recovers stop.Memory opens = inl refl
stop_ends root_disk {repo_disk} repo_laws m before now input repo_told s recovers (stop.Refused r) opens = absurd (⊎_elim (λ log. never_blocked log recovers.recovers) (λ is. absurd (cc is)) (opens.stops.told repo_told).cause)
stop_ends root_disk {repo_disk} repo_laws m before now input repo_told s recovers (stop.Damaged path) opens = absurd (never_damaged repo_laws repo_disk before.repo now.repo path s.repository repo_told opens.stops recovers (kept_recovers repo_laws (repo_disk.reads before.repo) (repo_disk.reads now.repo) s.repository (opens.kept repo_told) recovers))
stop_ends root_disk {repo_disk} repo_laws m before now input repo_told s recovers stop.FarFailed opens = absurd opens.stops
stop_ends root_disk {repo_disk} repo_laws m before now input repo_told s recovers (stop.FarDamaged path) opens = absurd opens.stops

module _ {T P : Type 0} {root_disk : DiskModel T} {repo_disk : DiskModel P} (repo_disk_laws : IsDisk repo_disk) (repo_laws : IsStore repository_store) (scope : Scope) (m : Meaning) (before now : CallState T P)
    (input : List ℕ) (repo_told : IsTrue repo_disk.tells) (s : State) (recovers : Recovers repository_store (repo_disk.reads before.repo) s.repository) where
  -- ---- the root wasn't opened

  root_stopped : (end : End) (stopped : StopsForRoot root_disk repo_disk before now end) → CallOnRepository root_disk repo_disk m input s before now end
  root_stopped end stopped =
      let at = stopped.stops in
      record {
        next = s.repository;
        ends = inl stopped;
        is_next = inl refl;
        repo = inl (subst (λ (d : P). LeavesOnly repo_disk before.repo d (RecoversAsThen repo_disk repository_store.base before.repo)) (sym at.same) (none_yet repo_disk_laws repository_store.base before.repo));
        pair = inl (record { failure = stopped.failure; is = stopped.is; stops = inl stopped.stops; unread = stopped.unread; silent = stopped.silent });
        rests = λ h. absurd (no_root_effect at.stop (subst HasEffect (stopped.is ∙ ap Err at.is) h));
        reads = inl (subst (λ (d : P). Recovers repository_store (repo_disk.reads d) s.repository) (sym at.same) recovers);
      }

  -- ---- the root was opened, and the repository wasn't

  repository_stopped : (e : Stop) → OpensRepository root_disk repo_disk before.repo now.repo (Err e) → NotOpened root_disk repo_disk before now (Err (repository_failure e)) → CallOnRepository root_disk repo_disk m input s before now (Err (repository_failure e))
  repository_stopped e opens stopped = record {
    next = s.repository;
    ends = inr (stop_ends root_disk repo_laws m before now input repo_told s recovers e opens);
    is_next = inl refl;
    repo = inl (opens.images repo_told);
    pair = inl stopped;
    rests = λ h. absurd (no_repo_effect e h);
    reads = inl (kept_recovers repo_laws (repo_disk.reads before.repo) (repo_disk.reads now.repo) s.repository (opens.kept repo_told) recovers);
  }

  pub repository_unopened : (end : End) → NotOpened root_disk repo_disk before now end → CallOnRepository root_disk repo_disk m input s before now end
  repository_unopened end stops = ⊎_elim
      (λ at. root_stopped end (record { failure = stops.failure; is = stops.is; stops = at; unread = stops.unread; silent = stops.silent }))
      (λ at.
      let is : end ≡ Err (repository_failure at.stop) = stops.is ∙ ap Err at.is in
      subst (λ (x : End). CallOnRepository root_disk repo_disk m input s before now x) (sym is) (repository_stopped at.stop at.opens (subst (λ (x : End). NotOpened root_disk repo_disk before now x) is stops)))
      stops.stops

  -- ---- both were opened

  module _ (root : T) (repo : P) (opened opened' : Opened) (opens : AreOpened root_disk repo_disk before.root root before.repo repo opened) where
    repo_rests : RestsAt repository_store repo_disk repo s.repository
    repo_rests = opened_rests repo_laws before.repo repo opened.catalogue s.repository (opens.opens.opened repo_told) recovers

    -- the input wasn't read
    pub repository_unread : (e : Failure) → ReadsGiven m.takes_input before.input now.input (Err e) → Gives m.takes_input input (Err e) → at_end root_disk repo_disk now opened' ≡ after_opening root_disk repo_disk before root repo opened → CallOnRepository root_disk repo_disk m input s before now (Err e)
    repository_unread e reads gives same =
        let same_repo : now.repo ≡ repo = ap (λ (x : Moment T P). x.at.repo) same in
        record {
          next = s.repository;
          ends = inr (own_unread m s input before.out now.out e reads gives);
          is_next = inl refl;
          repo = inl (subst (λ (d : P). LeavesOnly repo_disk before.repo d (RecoversAsThen repo_disk repository_store.base before.repo)) (sym same_repo) (opens.opens.images repo_told));
          pair = inr (record {
            root = root;
            repo = repo;
            opened = opened;
            opens = opens;
            root_lives = tt;
            repo_lives = subst (λ (d : P). LeavesOnly repo_disk repo d (OneOf repository_store s.repository s.repository)) (sym same_repo) (leaves_weaker (λ image h. inl h) (rest_lives repo_laws repo_disk_laws repo repo s.repository (nothing_done repo_disk_laws repo) repo_rests));
          });
          rests = λ h. absurd (no_unread_effect e reads h);
          reads = inl (subst (λ (d : P). Recovers repository_store (repo_disk.reads d) s.repository) (sym same_repo) (rest_reads repo_laws repo s.repository repo_rests));
        }

    -- the command was performed
    pub repository_run : (bytes : List ℕ) → given m.takes_input input ≡ Ok bytes → scope.of_repository ≡ true → (end : End) → RunsLine root_disk repo_disk scope m bytes (after_opening root_disk repo_disk before root repo opened) (at_end root_disk repo_disk now opened') end → CallOnRepository root_disk repo_disk m input s before now end
    repository_run bytes gives is end runs =
        let f = (runs.apart is).told repo_told s repo_rests in
        let after : State = record { root = s.root; repository = f.next } in
        let ended : CallEnds (OwnOutcome m s input) s after before.out now.out end = own_ends m s input bytes gives before.out now.out after end f.ends in
        record {
          next = f.next;
          ends = inr ended;
          is_next = next_any (OwnOutcome m s input) s after before.out now.out end ended;
          repo = inr (record { opened = repo; opening = opens.opens.images repo_told; lives = f.repo.images });
          pair = inr (record { root = root; repo = repo; opened = opened; opens = opens; root_lives = tt; repo_lives = f.repo.images });
          rests = λ h. f.repo.rests (small end h);
          reads = f.repo.reads;
        }

-- ---- the root

-- it was opened at most
pub record RootOpened {T P : Type 0} (root_disk : DiskModel T) (repo_disk : DiskModel P) (before now : CallState T P) : Type 0 where
  pub opened : Result Db Stop
  pub root : OpensRoot root_disk repo_disk before.root now.root opened

module _ {T P : Type 0} {root_disk : DiskModel T} {repo_disk : DiskModel P} (before now : CallState T P) where
  pub unopened_root : (end : End) → NotOpened root_disk repo_disk before now end → RootOpened root_disk repo_disk before now
  unopened_root end stops = ⊎_elim
      (λ at. record { opened = Err at.stop; root = at.opens })
      (λ at. record { opened = Ok at.db; root = at.opens_root })
      stops.stops

  pub opened_root : (root : T) (repo : P) (opened : Opened) → AreOpened root_disk repo_disk before.root root before.repo repo opened → now.root ≡ root → RootOpened root_disk repo_disk before now
  opened_root root repo opened opens same = record {
    opened = Ok opened.db;
    root = subst (λ (d : T). OpensRoot root_disk repo_disk before.root d (Ok opened.db)) (sym same) opens.opens_root;
  }
