-- A command that works on the root alone, performed without a repository, was performed beside any.
use Rattle.std.proofs.Common.{◌≡◌, ℕ, true, false, List, [], None, Result, Ok, Err, refl, sym, ap, subst, inl, inr, ⊎_elim, arith}
use Rattle.repo_index.specs.Catalogue.{CatalogueParts, no_commits}
use Rattle.repo_load.specs.cny-base.Flow.{SourceState, SinkState}
use Rattle.repo_load.specs.Files.{repository_base}
use Rattle.repo_load.specs.State.{RepositoryState}
use Rattle.local_db.specs.declared.db.Db.{Db}
use Rattle.cny_laws.specs.system-core.cny-base.Count.{Rose}
use Rattle.cny_laws.specs.system-core.cny-base.declared.refusal.Refusal.{Refusal}
use Rattle.cny_laws.specs.system-core.tree-disk.Clear.{is_within}
use Rattle.cny_laws.specs.system-core.tree-disk.Confined.{Among}
use Rattle.cny_laws.specs.system-core.tree-disk.Disk.{DiskModel, IsDisk}
use Rattle.cny_laws.proofs.system-core.tree-disk.ConfinedLaws.{confined_read}
use Rattle.cny_laws.specs.declared.failure.Failure.TheVariants as failure
use Rattle.cny_laws.specs.Report.{End}
use Rattle.cny_laws.specs.State.{after, nothing, on_repository, on_root, Change, Effect, IsNext, Meaning, Scope, State, Takes}
use Rattle.cny_laws.specs.Store.{IsStore, NamesDamaged}
use Rattle.cny_laws.specs.Stores.{root_store, repository_store}
use Rattle.cli_call.specs.Command.{disks, AreReady, Goes}
use Rattle.cli_call.specs.Line.{EndsWriting, LineAlone, LineCause, Moment, RunsLine}
use Rattle.cli_call.specs.Runs.{RunsOpen}
use Rattle.cli_call.proofs.CommandLaws.{goes_read}
use Rattle.cli_call.proofs.LoadingRepository.{none_rules}
use Rattle.cli_call.proofs.OpenedEnds.{catalogue_held, files_kept}
use Rattle.cli_call.proofs.StoreLaws.{nothing_done}

-- the state with another repository
abbrev pub beside : State → RepositoryState → State
beside s r = record { root = s.root; repository = r }

-- its outcomes are the same beside each repository, and none changes one
pub record IsOfRoot (m : Meaning) : Type 0 where
  pub same : (s : State) (r : RepositoryState) (input : List ℕ) (outcome : Result Effect Refusal) → m.IsOutcome s input outcome → m.IsOutcome (beside s r) input outcome
  pub stays : (s : State) (input : List ℕ) (effect : Effect) (y : RepositoryState) → m.IsOutcome s input (Ok effect) → effect.change ≡ on_repository y → ⊥

abbrev empty_repository : RepositoryState
empty_repository = record { commits = []; contents = λ name. None }

leads_beside : (s next : State) (r : RepositoryState) (change : Change) → ((y : RepositoryState) → change ≡ on_repository y → ⊥) → next ≡ after s change → beside next r ≡ after (beside s r) change
leads_beside s next r nothing stays leads = ap (λ (t : State). beside t r) leads
leads_beside s next r (on_root x) stays leads = ap (λ (t : State). beside t r) leads
leads_beside s next r (on_repository y) stays leads = absurd (stays y refl)

module _ {m : Meaning} (of : IsOfRoot m) (input : List ℕ) (s next : State) (r : RepositoryState) where
  takes_beside : {HasBytes : List ℕ → Type 0} → Takes (m.IsOutcome s input) s next HasBytes → Takes (m.IsOutcome (beside s r) input) (beside s r) (beside next r) HasBytes
  takes_beside takes = record {
    effect = takes.effect;
    is = of.same s r input (Ok takes.effect) takes.is;
    leads = leads_beside s next r takes.effect.change (λ y is. of.stays s input takes.effect y takes.is is) takes.leads;
    bytes = takes.bytes;
  }

  next_beside : IsNext (m.IsOutcome s input) s next → IsNext (m.IsOutcome (beside s r) input) (beside s r) (beside next r)
  next_beside (inl is) = inl (ap (λ (t : State). beside t r) is)
  next_beside (inr takes) = inr (takes_beside takes)

  ends_beside : (before now : SinkState) (end : End) → EndsWriting (m.IsOutcome s input) s next before now end → EndsWriting (m.IsOutcome (beside s r) input) (beside s r) (beside next r) before now end
  ends_beside before now (Ok x) h = takes_beside h
  ends_beside before now (Err (failure.Refused refused)) h = (of.same s r input (Err refused) h.0, ap (λ (t : State). beside t r) h.1, h.2)
  ends_beside before now (Err failure.OutputFault) h = takes_beside h
  ends_beside before now (Err failure.RootFault) h = (next_beside h.0, h.1)
  ends_beside before now (Err failure.RepositoryFault) h = (next_beside h.0, h.1)
  ends_beside before now (Err failure.Memory) h = (next_beside h.0, h.1)
  ends_beside before now (Err failure.Usage) h = absurd h
  ends_beside before now (Err failure.InputFault) h = absurd h
  ends_beside before now (Err (failure.Damaged path)) h = absurd h

-- the moment with this repository, and its catalogue
abbrev pub placed : {T N P : Type 0} → P → CatalogueParts → Moment T N → Moment T P
placed repo c m = record { at = disks m.at.root repo (record { db = m.at.opened.db; catalogue = c }); out = m.out }

module _ {T N P : Type 0} {root_disk : DiskModel T} {none_disk : DiskModel N} {repo_disk : DiskModel P} where
  -- where a command may begin, one may that works on the root alone
  pub ready_for_root : (root : T) (none : N) (repo : P) (db : Db) (empty c : CatalogueParts) → empty ≡ no_commits → none_disk.tells ≡ false → AreReady root_disk repo_disk (disks root repo (record { db = db; catalogue = c }))
      → AreReady root_disk none_disk (disks root none (record { db = db; catalogue = empty }))
  ready_for_root root none repo db empty c is_empty untold ready = record {
    root = λ told. let at = ready.root told in record { fixed = at.fixed; flag_clear = at.flag_clear; synced = at.synced; holds = at.holds };
    database = ready.database;
    repo = λ told. absurd (cc (untold, told));
    rules = record { commits = []; rules = none_rules; is = is_empty };
  }

module _ {T N P : Type 0} (root_disk : DiskModel T) (none_disk : DiskModel N) (repo_disk : DiskModel P) where
  module _ (quiet : (none none' : N) → Rose (none_disk.faults none) (none_disk.faults none') → ⊥) (repo : P) (c : CatalogueParts) (old new : Moment T N) where
    cause_placed : (end : End) → NamesDamaged root_store root_disk new.at.root end → LineCause root_disk none_disk old new end → LineCause root_disk repo_disk (placed repo c old) (placed repo c new) end
    cause_placed (Ok x) damaged h = tt
    cause_placed (Err (failure.Refused r)) damaged h = h
    cause_placed (Err failure.OutputFault) damaged h = h
    cause_placed (Err failure.RootFault) damaged h = h
    cause_placed (Err failure.RepositoryFault) damaged h = absurd (quiet old.at.repo new.at.repo h.0)
    cause_placed (Err failure.Memory) damaged h = h
    cause_placed (Err (failure.Damaged path)) damaged h = (inl (damaged path refl), h.1)
    cause_placed (Err failure.Usage) damaged h = absurd h
    cause_placed (Err failure.InputFault) damaged h = absurd h

    module _ (repo_laws : IsDisk repo_disk) (store_laws : IsStore repository_store) (is_empty : old.at.opened.catalogue ≡ no_commits) (ready : AreReady root_disk repo_disk (placed repo c old).at)
        (scope : Scope) (on : scope.of_root ≡ true) (apart : scope.of_repository ≡ false) (bare : scope.of_contents ≡ false) (m : Meaning) (of : IsOfRoot m) where
      line_placed : (input : List ℕ) (end : End) → RunsLine root_disk none_disk scope m input old new end → RunsLine root_disk repo_disk scope m input (placed repo c old) (placed repo c new) end
      line_placed input end runs = record {
        root_later = runs.root_later;
        repo_later = omega arith;
        out_later = runs.out_later;
        cause = cause_placed end alone.damaged runs.cause;
        rest = λ le. record { root = (runs.rest le).root; repo = λ told. (ready.repo told).settled };
        same = λ none. record { root = (runs.same none).root; repo = λ told. refl };
        within = λ told. confined_read repo_laws (Among (is_within repository_base)) (nothing_done repo_laws repo);
        told = λ told repo_told s stands. let f = alone.told told s stands.root in record {
          next = f.next;
          ends = f.ends;
          apart = inr f.stays;
          root = f.root;
          repo = subst (λ (r : RepositoryState). Goes repository_store repo_disk s.repository r repo repo end) (sym f.stays) (goes_read store_laws repo_laws repo repo s.repository end (nothing_done repo_laws repo) stands.repo);
          outside = f.outside;
          seen = f.seen;
        };
        alone = λ is. record {
          repo = refl;
          damaged = alone.damaged;
          told = λ told s rests. let f = alone.told told s rests in record { next = f.next; ends = f.ends; stays = f.stays; root = f.root; outside = f.outside; seen = f.seen };
        };
        apart = λ is. absurd (cc (apart, is));
        by_lists = λ is. let a = runs.by_lists is in record {
          root = a.root;
          repo = refl;
          ends = λ s has. ends_beside of input (beside s empty_repository) (beside s empty_repository) s.repository old.out new.out end (a.ends (beside s empty_repository) (record { installed = has.installed; committed = none_committed }));
        };
        by_tree = λ is told s has. ends_beside of input (beside s empty_repository) (beside s empty_repository) s.repository old.out new.out end
            (runs.by_tree is told (beside s empty_repository) (record { lists = record { installed = has.lists.installed; committed = none_committed }; outer = has.outer }));
        by_opened = λ is told repo_told s has.
            let by = runs.by_opened is told (λ off. absurd (cc (on, off))) (beside s empty_repository) (record { system = has.system; outer = has.outer; database = has.database; catalogue = sym is_empty }) in
            record {
              next = beside by.next s.repository;
              ends = ends_beside of input (beside s empty_repository) by.next s.repository old.out new.out end by.ends;
              holds = λ le. let holds = by.holds le in record {
                outer = holds.outer;
                database = holds.database;
                catalogue = λ t. catalogue_held old.at.root (record { db = old.at.opened.db; catalogue = c }) s has (repo_disk.reads repo) (ready.repo t).catalogue;
              };
              moments = by.moments;
            };
        by_contents = λ is. absurd (cc (bare, is));
        by_records = λ is told s has records. ends_beside of input (beside s empty_repository) (beside s empty_repository) s.repository old.out new.out end
            (runs.by_records is told (beside s empty_repository) (record { system = has.system; outer = has.outer; database = has.database; catalogue = sym is_empty }) records);
        files_stay = files_kept repo_laws c scope.of_opened repo;
        root_read = runs.root_read;
        repo_read = λ is told. nothing_done repo_laws repo;
      }
        where
          alone : LineAlone root_disk none_disk m input old new end
          alone = runs.alone on

          none_committed : [] ≡ old.at.opened.catalogue.troves
          none_committed = sym (ap (λ (c : CatalogueParts). c.troves) is_empty)

      pub runs_placed : (input input' : SourceState) (end : End) → RunsOpen root_disk none_disk scope m input input' old new end → RunsOpen root_disk repo_disk scope m input input' (placed repo c old) (placed repo c new) end
      runs_placed input input' end runs = ⊎_elim
          (λ stops. inl (record { failure = stops.failure; is = stops.is; reads = stops.reads; same = ap (placed repo c) stops.same }))
          (λ with. inr (record { bytes = with.bytes; reads = with.reads; runs = line_placed with.bytes end with.runs }))
          runs
