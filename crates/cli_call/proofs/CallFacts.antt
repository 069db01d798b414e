-- What is known of a call by how it ended, whatever the disks store.
use Rattle.std.proofs.Common.{◌≡◌, ℕ, false, List, Result, Ok, Err, sym, ap, ◌∙◌, subst, ⊎_elim, arith}
use Rattle.std.specs.Prelude.{◌⊎◌, IsTrue}
use Rattle.cny_laws.specs.system-core.cny-base.declared.refusal.Refusal.{Refusal}
use Rattle.cny_laws.specs.system-core.cny-base.declared.stop.Stop.{Stop}
use Rattle.cny_laws.specs.system-core.tree-disk.Tree.{Tree}
use Rattle.cny_laws.specs.system-core.tree-disk.Disk.{DiskModel, HasRead, IsDisk}
use Rattle.cny_laws.specs.system-core.tree-disk.Clear.{is_within}
use Rattle.cny_laws.specs.system-core.tree-disk.Confined.{Among, Confined}
use Rattle.cny_laws.proofs.system-core.tree-disk.ConfinedLaws.{confined_start, confined_then, confined_wider}
use Rattle.cny_laws.proofs.system-core.tree-disk.Moments.{rose_before}
use Rattle.cny_laws.specs.system-core.tree-disk.Steps.{no_name}
use Rattle.cny_laws.specs.system-core.tree-journal.Recovery.{is_committed}
use Rattle.repo_load.specs.Files.{repository_base}
use Rattle.cny_laws.specs.declared.failure.Failure.{Failure}
use Rattle.cny_laws.specs.declared.opened.Opened.{Opened}
use Rattle.cny_laws.specs.Call.{CallState, OpensRoot, OpensRepository, AreOpened, NotOpened}
use Rattle.cli_call.specs.Runs.{RunsCall, RunsWith, StopsReading, after_opening, at_end}
use Rattle.cny_laws.specs.Report.{ChangesNothing, End}
use Rattle.cny_laws.specs.system-core.FixedDirs.{fixed_dirs}
use Rattle.cli_call.specs.Line.{Moment, LineCause, RunsLine}
use Rattle.cli_call.proofs.LineLaws.{keeps_still}
use Rattle.cny_laws.specs.Reading.{ReadsGiven}
use Rattle.cny_laws.specs.system-core.tree-journal.Recovered.{RecoversToNone, IsKept}
use Rattle.cny_laws.specs.RootOpening.{IsRootKept}
use Rattle.cny_laws.specs.State.{Meaning, Scope}
use Rattle.cny_laws.specs.Stops.{root_failure, repository_failure}
use Rattle.cny_laws.specs.Stores.{root_store, repository_store}
use Rattle.local_db.specs.declared.db.Db.{Db}
use Rattle.cny_laws.specs.WholeCall.{CallCause, CallFacts}
use Rattle.repo_load.specs.cny-base.Flow.{SourceState, SinkState}
use Rattle.cny_laws.proofs.system-core.Opened.{kept_so}
use Rattle.cny_laws.specs.system-core.cny-base.declared.stop.Stop.TheVariants as stop
use Rattle.cny_laws.specs.declared.failure.Failure.TheVariants as failure

never_fixed : {r : Refusal} {d : Result (Unit {0}) Refusal} → d ≡ Ok tt → d ≡ Err r → ⊥
never_fixed a b = cc (a, b)

abbrev input_faults : SourceState → ℕ
input_faults x = x.faults

abbrev out_faults : SinkState → ℕ
out_faults x = x.faults

module _ {T P : Type 0} {root_disk : DiskModel T} {repo_disk : DiskModel P} (root_laws : IsDisk root_disk) (repo_laws : IsDisk repo_disk) (before now : CallState T P) where
  -- ---- the root wasn't opened

  root_cause : (e : Stop) → OpensRoot root_disk repo_disk before.root now.root (Err e) → now.out ≡ before.out → CallCause root_disk repo_disk before now (Err (root_failure e))
  root_cause stop.Failed opens silent = (opens.stops, keeps_still before.out now.out silent)
  root_cause stop.Memory opens silent = keeps_still before.out now.out silent
  root_cause (stop.Refused r) opens silent = keeps_still before.out now.out silent
  root_cause (stop.Damaged path) opens silent = keeps_still before.out now.out silent
  root_cause stop.FarFailed opens silent = absurd opens.stops
  root_cause (stop.FarDamaged path) opens silent = absurd opens.stops

  same_repo : now.repo ≡ before.repo → IsKept repository_store.base (repo_disk.reads before.repo) (repo_disk.reads now.repo)
  same_repo same = subst (λ (d : P). IsKept repository_store.base (repo_disk.reads before.repo) (repo_disk.reads d)) (sym same) (kept_so repository_store.base (repo_disk.reads before.repo))

  root_kept : (e : Stop) → OpensRoot root_disk repo_disk before.root now.root (Err e) → IsTrue root_disk.tells → ChangesNothing (Err (root_failure e)) → IsRootKept (root_disk.reads before.root) (root_disk.reads now.root)
  root_kept (stop.FarDamaged path) opens told none = absurd opens.stops
  root_kept (stop.Refused r) opens told none = opens.kept told tt
  root_kept (stop.Damaged path) opens told none = opens.kept told tt
  root_kept stop.Failed opens told none = absurd none
  root_kept stop.Memory opens told none = absurd none
  root_kept stop.FarFailed opens told none = absurd opens.stops

  at_root : (e : Stop) → OpensRoot root_disk repo_disk before.root now.root (Err e) → now.repo ≡ before.repo → now.input ≡ before.input → now.out ≡ before.out → CallFacts root_disk repo_disk before now (Err (root_failure e))
  at_root e opens same unread silent = record {
    later = record { input = omega (arith, ap input_faults unread); out = omega (arith, ap out_faults silent); root = opens.later; repo = omega (arith, ap repo_disk.faults same) };
    cause = root_cause e opens silent;
    kept = λ none. record { root = λ told. root_kept e opens told none; repo = λ told. same_repo same };
    root_untouched = opens.untouched;
    repo_untouched = λ told none. subst (λ (d : P). Confined repo_disk (Among no_name) before.repo d) (sym same) (confined_start repo_laws (Among no_name) before.repo);
    repo_within = λ told off. subst (λ (d : P). Confined repo_disk (Among (is_within repository_base)) before.repo d) (sym same) (confined_start repo_laws (Among (is_within repository_base)) before.repo);
    missing = λ told r is. (opens.missing told r is, same, unread);
  }

  -- ---- the root was opened, and the repository wasn't

  repo_cause : (e : Stop) → OpensRepository root_disk repo_disk before.repo now.repo (Err e) → now.out ≡ before.out → CallCause root_disk repo_disk before now (Err (repository_failure e))
  repo_cause stop.Failed opens silent = (opens.stops, keeps_still before.out now.out silent)
  repo_cause stop.Memory opens silent = keeps_still before.out now.out silent
  repo_cause (stop.Refused r) opens silent = keeps_still before.out now.out silent
  repo_cause (stop.Damaged path) opens silent = keeps_still before.out now.out silent
  repo_cause stop.FarFailed opens silent = absurd opens.stops
  repo_cause (stop.FarDamaged path) opens silent = absurd opens.stops

  at_repository : (e : Stop) (db : Db) → OpensRoot root_disk repo_disk before.root now.root (Ok db) → OpensRepository root_disk repo_disk before.repo now.repo (Err e) → now.input ≡ before.input → now.out ≡ before.out → CallFacts root_disk repo_disk before now (Err (repository_failure e))
  at_repository e db opens_root opens unread silent = record {
    later = record { input = omega (arith, ap input_faults unread); out = omega (arith, ap out_faults silent); root = opens_root.later; repo = opens.later };
    cause = repo_cause e opens silent;
    kept = λ none. record { root = λ told. opens_root.kept told tt; repo = opens.kept };
    root_untouched = λ told none. absurd (none (opens_root.opened told).reached.recovered (opens_root.opened told).reached.recovers);
    repo_untouched = opens.untouched;
    repo_within = λ told off. confined_wider (λ p none. absurd cc) (opens.clear told off);
    missing = λ told r is. absurd (never_fixed (opens_root.opened told).fixed is);
  }

  pub not_opened : (end : End) → NotOpened root_disk repo_disk before now end → CallFacts root_disk repo_disk before now end
  not_opened end stops = ⊎_elim
      (λ at. subst (λ (x : End). CallFacts root_disk repo_disk before now x) (sym (stops.is ∙ ap Err at.is)) (at_root at.stop at.opens at.same stops.unread stops.silent))
      (λ at. subst (λ (x : End). CallFacts root_disk repo_disk before now x) (sym (stops.is ∙ ap Err at.is)) (at_repository at.stop at.db at.opens_root at.opens stops.unread stops.silent))
      stops.stops

  -- ---- both were opened

  module _ (root : T) (repo : P) (opened opened' : Opened) (opens : AreOpened root_disk repo_disk before.root root before.repo repo opened) where
    open_root_untouched : IsTrue root_disk.tells → RecoversToNone root_store.base (root_disk.reads before.root) → Confined root_disk (Among no_name) before.root now.root
    open_root_untouched told none = absurd (none (opens.opens_root.opened told).reached.recovered (opens.opens_root.opened told).reached.recovers)

    open_repo_untouched : IsTrue repo_disk.tells → RecoversToNone repository_store.base (repo_disk.reads before.repo) → Confined repo_disk (Among no_name) before.repo now.repo
    open_repo_untouched told none = absurd (none (repo_disk.reads repo) (opens.opens.opened told).recovers)

    opened_within : IsTrue repo_disk.tells → is_committed repository_store.base (repo_disk.reads before.repo) ≡ false → Confined repo_disk (Among (is_within repository_base)) before.repo repo
    opened_within told off = confined_wider (λ p none. absurd cc) (opens.opens.clear told off)

    open_missing : IsTrue root_disk.tells → (r : Refusal) → fixed_dirs (root_disk.reads before.root) ≡ Err r → HasRead root_disk before.root now.root (Unit {0}) × (now.repo ≡ before.repo) × (now.input ≡ before.input)
    open_missing told r is = absurd (never_fixed (opens.opens_root.opened told).fixed is)

    kept_root : root_disk.reads now.root ≡ root_disk.reads root → IsTrue root_disk.tells → IsRootKept (root_disk.reads before.root) (root_disk.reads now.root)
    kept_root same told = subst (λ (t : Tree). IsRootKept (root_disk.reads before.root) t) (sym same) (opens.opens_root.kept told tt)

    kept_repo : repo_disk.reads now.repo ≡ repo_disk.reads repo → IsTrue repo_disk.tells → IsKept repository_store.base (repo_disk.reads before.repo) (repo_disk.reads now.repo)
    kept_repo same told = subst (λ (t : Tree). IsKept repository_store.base (repo_disk.reads before.repo) t) (sym same) (opens.opens.kept told)

    -- the input wasn't read

    unread_cause : (m : Meaning) (e : Failure) → ReadsGiven m.takes_input before.input now.input (Err e) → now.out ≡ before.out → CallCause root_disk repo_disk before now (Err e)
    unread_cause m (failure.Refused r) reads silent = keeps_still before.out now.out silent
    unread_cause m failure.InputFault reads silent = (reads.cause, keeps_still before.out now.out silent)
    unread_cause m failure.Memory reads silent = keeps_still before.out now.out silent
    unread_cause m _ reads silent = absurd reads.cause

    unread_facts : (m : Meaning) (e : Failure) → ReadsGiven m.takes_input before.input now.input (Err e) → at_end root_disk repo_disk now opened' ≡ after_opening root_disk repo_disk before root repo opened → CallFacts root_disk repo_disk before now (Err e)
    unread_facts m e reads same =
        let silent : now.out ≡ before.out = ap (λ (x : Moment T P). x.out) same in
        let same_root : now.root ≡ root = ap (λ (x : Moment T P). x.at.root) same in
        let same_repo' : now.repo ≡ repo = ap (λ (x : Moment T P). x.at.repo) same in
        let root_later = opens.opens_root.later in
        let repo_later = opens.opens.later in
        record {
          later = record {
            input = reads.later;
            out = omega (arith, ap out_faults silent);
            root = omega (arith, root_later, ap root_disk.faults same_root);
            repo = omega (arith, repo_later, ap repo_disk.faults same_repo');
          };
          cause = unread_cause m e reads silent;
          kept = λ none. record { root = kept_root (ap root_disk.reads same_root); repo = kept_repo (ap repo_disk.reads same_repo') };
          root_untouched = open_root_untouched;
          repo_untouched = open_repo_untouched;
          repo_within = λ told off. subst (λ (d : P). Confined repo_disk (Among (is_within repository_base)) before.repo d) (sym same_repo') (opened_within told off);
          missing = open_missing;
        }

    -- the command was performed

    run_cause : (end : End) → LineCause root_disk repo_disk (after_opening root_disk repo_disk before root repo opened) (at_end root_disk repo_disk now opened') end → CallCause root_disk repo_disk before now end
    run_cause (Ok x) h = tt
    run_cause (Err failure.RootFault) h = (rose_before (root_disk.faults before.root) (root_disk.faults root) (root_disk.faults now.root) opens.opens_root.later h.0, h.1)
    run_cause (Err failure.RepositoryFault) h = (rose_before (repo_disk.faults before.repo) (repo_disk.faults repo) (repo_disk.faults now.repo) opens.opens.later h.0, h.1)
    run_cause (Err (failure.Damaged path)) h = h.1
    run_cause (Err failure.InputFault) h = absurd h
    run_cause _ h = h

    run_facts : (scope : Scope) (m : Meaning) (bytes : List ℕ) (end : End) → ReadsGiven m.takes_input before.input now.input (Ok bytes) → RunsLine root_disk repo_disk scope m bytes (after_opening root_disk repo_disk before root repo opened) (at_end root_disk repo_disk now opened') end → CallFacts root_disk repo_disk before now end
    run_facts scope m bytes end reads runs = record {
      later = record {
        input = reads.later;
        out = runs.out_later;
        root = omega (arith, opens.opens_root.later, runs.root_later);
        repo = omega (arith, opens.opens.later, runs.repo_later);
      };
      cause = run_cause end runs.cause;
      kept = λ none. record { root = λ told. kept_root ((runs.same none).root told) told; repo = λ told. kept_repo ((runs.same none).repo told) told };
      root_untouched = open_root_untouched;
      repo_untouched = open_repo_untouched;
      repo_within = λ told off. confined_then (opened_within told off) (runs.within told);
      missing = open_missing;
    }

    pub open_facts : (scope : Scope) (m : Meaning) (end : End) → StopsReading root_disk repo_disk m before.input now.input (after_opening root_disk repo_disk before root repo opened) (at_end root_disk repo_disk now opened') end ⊎ RunsWith root_disk repo_disk scope m before.input now.input (after_opening root_disk repo_disk before root repo opened) (at_end root_disk repo_disk now opened') end → CallFacts root_disk repo_disk before now end
    open_facts scope m end how = ⊎_elim
        (λ stops. subst (λ (x : End). CallFacts root_disk repo_disk before now x) (sym stops.is) (unread_facts m stops.failure stops.reads stops.same))
        (λ runs. run_facts scope m runs.bytes end runs.reads runs.runs)
        how

  pub call_facts : (scope : Scope) (m : Meaning) (end : End) → RunsCall root_disk repo_disk scope m before now end → CallFacts root_disk repo_disk before now end
  call_facts scope m end how = ⊎_elim
      (λ stops. not_opened end stops)
      (λ goes. open_facts goes.root goes.repo goes.opened goes.opened' goes.opens scope m end goes.runs)
      how
