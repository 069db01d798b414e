-- How a commit of a change set ends, from what the repository's own function says.
use Rattle.std.proofs.Common.{◌≡◌, ◌⊎◌, inl, inr, ⊎_elim, ℕ, ◌≤◌, false, IsTrue, List, Result, Ok, Err, IfErr, refl, sym, ap, ◌∙◌, subst, arith}
use Rattle.std.proofs.lemmas.Bool.{cases_Bool}
use Rattle.std.specs.Prelude.{IfOk, OnOk}
use Rattle.cli_call.specs.cny-base.declared.refusal.Refusal.{Refusal}
use Rattle.cli_call.specs.cny-base.declared.stop.Stop.{Stop}
use Rattle.cli_call.specs.cny-base.declared.stop.Stop.TheVariants as stop
use Rattle.cli_call.specs.trove-parts.declared.id.TroveId.{TroveId}
use Rattle.cli_call.specs.tree-disk.Tree.{Name, Tree}
use Rattle.cli_call.specs.tree-disk.Disk.{DiskModel, IsDisk, HasRead}
use Rattle.cli_call.specs.tree-disk.Clear.{is_within}
use Rattle.cli_call.specs.tree-disk.Confined.{Among, Confined, IsUnsynced}
use Rattle.cli_call.proofs.tree-disk.ConfinedLaws.{leaves_weaker}
use Rattle.cli_call.specs.tree-journal.Recovery.{is_committed}
use Rattle.cli_call.specs.change-set.declared.change.ChangeSet.{ChangeSet}
use Rattle.cli_call.specs.content-store.Contents.{ContentMap}
use Rattle.repo_index.specs.Catalogue.{CatalogueParts}
use Rattle.repo_load.specs.Files.{repository_base, HoldsCatalogue, StoresRepository}
use Rattle.repo_load.specs.Loading.{IsCatalogue}
use Rattle.repo_load.specs.State.{catalogue_of, troves_of, RepositoryState}
use Rattle.repo_load.specs.Contents.{IsDamagedContent}
use Rattle.repository.specs.Outcome as outcome
use Rattle.repository.specs.Outcome.{committed_contents, AtEveryMoment, EndsSo, HasMoments, IsCommitDone}
use Rattle.repository.specs.Steps.{after_commit, IsOldOrNew, IsCommitStep, RecoversToEitherRepository, RecoversToRepository}
use Rattle.repository.specs.Tests.{IsRefused, Passes}
use Rattle.cny_report.specs.Troves.{committed_text}
use Rattle.cli_call.specs.cny-laws.declared.failure.Failure.{Failure}
use Rattle.cli_call.specs.cny-laws.declared.failure.Failure.TheVariants as failure
use Rattle.cli_call.specs.Alone.{ActsOnRepository, AnswersByContents}
use Rattle.cli_call.specs.Command.{Disks, AreReady, AnswersAs, Goes, HasFailureCause, end_of}
use Rattle.cli_call.specs.cny-laws.Report.{ChangesNothing, status_of}
use Rattle.cli_call.proofs.Again.{IsJoined}
use Rattle.cli_call.specs.SetInput.{HasSetOutcome}
use Rattle.cli_call.proofs.CommandLaws.{acts_more, goes_read}
use Rattle.cli_call.proofs.OpenedEnds.{contents_more}
use Rattle.cli_call.specs.cny-laws.State.{Effect, Meaning, State, IsNext, Takes}
use Rattle.cli_call.specs.cny-laws.Stops.{repository_failure, repository_result}
use Rattle.cli_call.specs.cny-laws.Store.{HasDamagedFile, IsSettled, IsStore, OneOf, Recovers, RestsAt}
use Rattle.cli_call.specs.cny-laws.Stores.{repository_store}
use Rattle.cli_call.proofs.StoreLaws.{read_settled}
use Rattle.repo_commands.specs.Commit.{commit_of, committed, Commits}

-- ---- a change set that an input spells

-- its commit is what the command does that the input is of
module _ {T P : Type 0} {root_disk : DiskModel T} {repo_disk : DiskModel P} (IsSpelled : ChangeSet → Type 0) (m : Meaning) (input : List ℕ) (of_set : (s : State) (o : Result Effect Refusal) → HasSetOutcome IsSpelled (λ set. Commits set s.repository) o → m.IsOutcome s input o)
    (old new : Disks T P) (set : ChangeSet) (spelled : IsSpelled set) (result : Result (List ℕ) Failure) where
  pub set_acts : ActsOnRepository root_disk repo_disk (commit_of set) input old new result → ActsOnRepository root_disk repo_disk m input old new result
  set_acts = acts_more (commit_of set) m input input old new result (λ told s rests o is. of_set s o (record { set = set; spelled = spelled; is = is }))

  -- the same by the contents that stand whole
  pub set_whole : AnswersByContents root_disk repo_disk (commit_of set) input old new result → AnswersByContents root_disk repo_disk m input old new result
  set_whole = contents_more (commit_of set) m input input old new result (λ s has o is. of_set s o (record { set = set; spelled = spelled; is = is }))

-- ---- the commit

-- the laws that are called upon
pub record CommitLaws : Type 0 where
  pub catalogue : (x : Tree) (r : RepositoryState) (c : CatalogueParts) → StoresRepository x r → HoldsCatalogue x c → c ≡ catalogue_of r.commits
  pub contents : (x : Tree) (r : RepositoryState) (name : List ℕ) (path : Name) → StoresRepository x r → IsDamagedContent (troves_of r.commits) name x path → ⊥
  pub same : (x : Tree) (r : RepositoryState) → StoresRepository x r → committed_contents (troves_of r.commits) x ≡ r.contents
  pub one : (r : RepositoryState) (set : ChangeSet) (a b : RepositoryState) → IsCommitStep r set a → IsCommitStep r set b → a ≡ b
  pub store : IsStore repository_store

-- what is said of the commit of a change set
pub record Committing {P : Type 0} (disk : DiskModel P) (set : ChangeSet) (c c' : CatalogueParts) (old new : P) (result : Result (List TroveId) Stop) : Type 0 where
  pub ends : IsTrue disk.tells → EndsSo disk set c c' old new result
  pub any_moment : IsTrue disk.tells → (r : RepositoryState) → AtEveryMoment disk set old new r
  pub within : IsTrue disk.tells → Confined disk (Among (is_within repository_base)) old new
  pub later : disk.faults old ≤ disk.faults new
  pub causes : IfErr result (outcome.HasCommitCause (disk.faults old) (disk.faults new))

-- ---- one repository

recovers_as : (r : RepositoryState) (image : Tree) → RecoversToRepository image r → Recovers repository_store image r
recovers_as r image rec = record { tree = rec.tree; recovers = rec.recovers; stored = rec.stores }

either_as : (r next : RepositoryState) (image : Tree) → RecoversToEitherRepository r next image → OneOf repository_store r next image
either_as r next image = ⊎_elim (λ old. inl (recovers_as r image old)) (λ new. inr (recovers_as next image new))

module _ (laws : CommitLaws) where
  -- the state after is the only one to which a step leads
  toward : (r : RepositoryState) (set : ChangeSet) (next made : RepositoryState) → IsOldOrNew r set next → IsCommitStep r set made → (image : Tree) → RecoversToEitherRepository r next image → OneOf repository_store r made image
  toward r set next made is step image = ⊎_elim
      (λ old. inl (recovers_as r image old))
      (λ new. ⊎_elim
      (λ same. inl (subst (Recovers repository_store image) same (recovers_as next image new)))
      (λ other. inr (subst (Recovers repository_store image) (laws.one r set next made other step) (recovers_as next image new)))
      is)

  -- what is so of the catalogue and the contents of the tree is so of the repository that it stores
  of_state : (x : Tree) (r : RepositoryState) (c : CatalogueParts) → StoresRepository x r → HoldsCatalogue x c → (Q : CatalogueParts → ContentMap → Type 0) → Q c (committed_contents c.troves x) → Q (catalogue_of r.commits) r.contents
  of_state x r c stores holds Q h =
      subst (λ (held : ContentMap). Q (catalogue_of r.commits) held) (laws.same x r stores)
      (subst (λ (k : CatalogueParts). Q k (committed_contents k.troves x)) (laws.catalogue x r c stores holds) h)

-- the effect of a step
takes_step : (set : ChangeSet) (s : State) (next : RepositoryState) → IsCommitStep s.repository set next → Takes (Commits set s.repository) s (record { root = s.root; repository = next }) (λ bytes. Unit {0})
takes_step set s next step = record {
  effect = committed s.repository set step.troves;
  is = record { troves = step.troves; passes = step.passes; is = refl };
  leads = ap (λ (y : RepositoryState). record { root = s.root; repository = y }) step.is;
  bytes = tt;
}

next_of : (set : ChangeSet) (s : State) (next : RepositoryState) → IsOldOrNew s.repository set next → IsNext (Commits set s.repository) s (record { root = s.root; repository = next })
next_of set s next (inl same) = inl (ap (λ (y : RepositoryState). record { root = s.root; repository = y }) same)
next_of set s next (inr step) = inr (takes_step set s next step)

-- what didn't become unsynced is still synced
still_synced : {P : Type 0} (disk : DiskModel P) (old new : P) (p : Name) → ((q : Name) → IsUnsynced disk new q → IsUnsynced disk old q) → disk.unsynced old p ≡ false → disk.unsynced new p ≡ false
still_synced disk old new p calm before = ⊎_elim (λ is. let was = calm p is in absurd (cc (was, before))) (λ is. is) (cases_Bool (disk.unsynced new p))

-- ---- the clause

module _ {T P : Type 0} {root_disk : DiskModel T} {repo_disk : DiskModel P} (repo_disk_laws : IsDisk repo_disk) (laws : CommitLaws) (set : ChangeSet) (input : List ℕ)
    (old new : Disks T P) (ready : AreReady root_disk repo_disk old) (root_same : new.root ≡ old.root) (c' : CatalogueParts) where
  moments : {result : Result (List TroveId) Stop} → Committing repo_disk set old.opened.catalogue c' old.repo new.repo result → IsTrue repo_disk.tells → (s : State) → RestsAt repository_store repo_disk old.repo s.repository → HasMoments repo_disk set old.repo new.repo s.repository
  moments done told s stands = done.any_moment told s.repository stands.stored stands.settled

  -- -- committed

  passes_of : (ids : List TroveId) → IsTrue repo_disk.tells → (s : State) → RestsAt repository_store repo_disk old.repo s.repository → (d : IsCommitDone repo_disk set old.opened.catalogue c' ids old.repo new.repo) → Passes (catalogue_of s.repository.commits) s.repository.contents set d.troves
  passes_of ids told s stands d = of_state laws (repo_disk.reads old.repo) s.repository old.opened.catalogue stands.stored (ready.repo told).catalogue (λ (k : CatalogueParts) (held : ContentMap). Passes k held set d.troves) d.passes

  step_of : (ids : List TroveId) → IsTrue repo_disk.tells → (s : State) → RestsAt repository_store repo_disk old.repo s.repository → (d : IsCommitDone repo_disk set old.opened.catalogue c' ids old.repo new.repo) → IsCommitStep s.repository set (after_commit d.troves set.contents s.repository)
  step_of ids told s stands d = record { troves = d.troves; passes = passes_of ids told s stands d; is = refl }

  done_goes : (ids : List TroveId) (result : Result (List ℕ) Failure) → Committing repo_disk set old.opened.catalogue c' old.repo new.repo (Ok ids) → (told : IsTrue repo_disk.tells) (s : State) → RestsAt repository_store repo_disk old.repo s.repository
      → (d : IsCommitDone repo_disk set old.opened.catalogue c' ids old.repo new.repo) → Goes repository_store repo_disk s.repository (after_commit d.troves set.contents s.repository) old.repo new.repo (end_of result)
  done_goes ids result done told s stands d =
      let m = moments done told s stands in
      let made = after_commit d.troves set.contents s.repository in
      let step = step_of ids told s stands d in record {
        images = leaves_weaker (toward laws s.repository set m.next made m.is step) m.images;
        rests = λ le. record {
          resting = record { flag_clear = d.rests.flag_clear; flag_synced = d.rests.flag_synced };
          settled = d.settled s.repository stands.stored stands.settled;
          stored = d.stores s.repository stands.stored;
        };
        reads = toward laws s.repository set m.next made m.is step (repo_disk.reads new.repo) m.reads;
      }

  done_settled : (ids : List TroveId) → Committing repo_disk set old.opened.catalogue c' old.repo new.repo (Ok ids) → IsTrue repo_disk.tells → IsSettled repo_disk repository_store.base new.repo
  done_settled ids done told =
      let d : IsCommitDone repo_disk set old.opened.catalogue c' ids old.repo new.repo = done.ends told in record {
        flag_clear = d.rests.flag_clear;
        synced = λ p. still_synced repo_disk old.repo new.repo p d.calm ((ready.repo told).settled.synced p);
      }

  pub commit_told : (ids : List TroveId) (text : List ℕ) → Committing repo_disk set old.opened.catalogue c' old.repo new.repo (Ok ids) → text ≡ committed_text ids → ActsOnRepository root_disk repo_disk (commit_of set) input old new (Ok text)
  commit_told ids text done is = record {
    root = root_same;
    later = done.later;
    cause = tt;
    damaged = λ path named. absurd (cc named);
    rest = λ le told. done_settled ids done told;
    same = λ none told. absurd none;
    within = done.within;
    told = λ told s stands.
        let d : IsCommitDone repo_disk set old.opened.catalogue c' ids old.repo new.repo = done.ends told in record {
          next = after_commit d.troves set.contents s.repository;
          answers = record {
            effect = committed s.repository set d.troves;
            is = record { troves = d.troves; passes = passes_of ids told s stands d; is = refl };
            leads = refl;
            bytes = sym (is ∙ ap committed_text d.ids_are);
          };
          goes = done_goes ids (Ok text) done told s stands d;
        };
  }

  -- its ids couldn't be told, for want of memory
  pub commit_untold : (ids : List TroveId) → Committing repo_disk set old.opened.catalogue c' old.repo new.repo (Ok ids) → ActsOnRepository root_disk repo_disk (commit_of set) input old new (Err failure.Memory)
  commit_untold ids done = record {
    root = root_same;
    later = done.later;
    cause = tt;
    damaged = λ path named. absurd (cc named);
    rest = λ le told. done_settled ids done told;
    same = λ none told. absurd none;
    within = done.within;
    told = λ told s stands.
        let d : IsCommitDone repo_disk set old.opened.catalogue c' ids old.repo new.repo = done.ends told in
        let step = step_of ids told s stands d in record {
          next = after_commit d.troves set.contents s.repository;
          answers = inr (takes_step set s (after_commit d.troves set.contents s.repository) step);
          goes = done_goes ids (Err failure.Memory) done told s stands d;
        };
  }

  -- -- stopped

  same_read : {A : Type 0} → HasRead repo_disk old.repo new.repo A → HasRead repo_disk old.repo new.repo (Unit {0})
  same_read read = record { answer = tt; same = read.same; time = read.time }

  refused_so : (refusal : Refusal) → Committing repo_disk set old.opened.catalogue c' old.repo new.repo (Err (stop.Refused refusal)) → ActsOnRepository root_disk repo_disk (commit_of set) input old new (Err (failure.Refused refusal))
  refused_so refusal done = record {
    root = root_same;
    later = done.later;
    cause = tt;
    damaged = λ path named. absurd (cc named);
    rest = λ le told. read_settled (done.ends told).0 (ready.repo told).settled.flag_clear (ready.repo told).settled.synced;
    same = λ none told. (done.ends told).0.same.reads;
    within = done.within;
    told = λ told s stands.
        let read = (done.ends told).0 in record {
          next = s.repository;
          answers = (of_state laws (repo_disk.reads old.repo) s.repository old.opened.catalogue stands.stored (ready.repo told).catalogue (λ (k : CatalogueParts) (held : ContentMap). IsRefused k held set refusal) read.answer, refl);
          goes = goes_read laws.store repo_disk_laws old.repo new.repo s.repository (end_of (Err (failure.Refused refusal))) (same_read read) stands;
        };
  }

  -- a fault, or want of memory
  module _ (result : Result (List ℕ) Failure) (low : status_of (end_of result) ≤ 4 → ⊥) (quiet : ChangesNothing (end_of result) → ⊥) (next_answers : (s next : State) → IsNext (Commits set s.repository) s next → AnswersAs (Commits set s.repository) s next result) where
    ended_so : (r : Result (List TroveId) Stop) → Committing repo_disk set old.opened.catalogue c' old.repo new.repo r → HasFailureCause root_disk repo_disk old new result → ActsOnRepository root_disk repo_disk (commit_of set) input old new result
    ended_so r done cause = record {
      root = root_same;
      later = done.later;
      cause = cause;
      damaged = λ path named. absurd (quiet (subst (λ (x : Result (List ℕ) Failure). ChangesNothing (end_of x)) (sym named) tt));
      rest = λ le told. absurd (low le);
      same = λ none told. absurd (quiet none);
      within = done.within;
      told = λ told s stands.
          let m = moments done told s stands in record {
            next = m.next;
            answers = next_answers s (record { root = s.root; repository = m.next }) (next_of set s m.next m.is);
            goes = record {
              images = leaves_weaker (either_as s.repository m.next) m.images;
              rests = λ le. absurd (low le);
              reads = either_as s.repository m.next (repo_disk.reads new.repo) m.reads;
            };
          };
    }

  damaged_file : (path : Name) → Committing repo_disk set old.opened.catalogue c' old.repo new.repo (Err (stop.Damaged path)) → IsTrue repo_disk.tells → HasDamagedFile repository_store (repo_disk.reads new.repo) path
  damaged_file path done told =
      let read = (done.ends told).0 in
      let source = read.answer in
      let back : repo_disk.reads old.repo ≡ repo_disk.reads new.repo = sym read.same.reads in record {
        flag_clear = ap (is_committed repository_store.base) read.same.reads ∙ (ready.repo told).settled.flag_clear;
        damaged = inr (inl (record {
          catalogue = old.opened.catalogue;
          holds = subst (λ (t : Tree). HoldsCatalogue t old.opened.catalogue) back (ready.repo told).catalogue;
          name = source.content.name;
          damaged = subst (λ (t : Tree). IsDamagedContent old.opened.catalogue.troves source.content.name t path) back source.damaged;
        }));
      }

  never_damaged : (path : Name) → Committing repo_disk set old.opened.catalogue c' old.repo new.repo (Err (stop.Damaged path)) → IsTrue repo_disk.tells → (s : State) → RestsAt repository_store repo_disk old.repo s.repository → ⊥
  never_damaged path done told s stands =
      let source = (done.ends told).0.answer in
      let same = laws.catalogue (repo_disk.reads old.repo) s.repository old.opened.catalogue stands.stored (ready.repo told).catalogue in
      laws.contents (repo_disk.reads old.repo) s.repository source.content.name path stands.stored
      (subst (λ (k : CatalogueParts). IsDamagedContent k.troves source.content.name (repo_disk.reads old.repo) path) same source.damaged)

  damaged_so : (path : Name) → Committing repo_disk set old.opened.catalogue c' old.repo new.repo (Err (stop.Damaged path)) → ActsOnRepository root_disk repo_disk (commit_of set) input old new (Err (failure.Damaged path))
  damaged_so path done = record {
    root = root_same;
    later = done.later;
    cause = (inr (damaged_file path done));
    damaged = λ file named. let same : path ≡ file = cc named in subst (λ (p : Name). IsTrue repo_disk.tells → HasDamagedFile repository_store (repo_disk.reads new.repo) p) same (damaged_file path done);
    rest = λ le told. absurd (omega (arith, le));
    same = λ none told. (done.ends told).0.same.reads;
    within = done.within;
    told = λ told s stands. absurd (never_damaged path done told s stands);
  }

  pub commit_stopped : (e : Stop) → Committing repo_disk set old.opened.catalogue c' old.repo new.repo (Err e) → ActsOnRepository root_disk repo_disk (commit_of set) input old new (Err (repository_failure e))
  commit_stopped (stop.Refused refusal) done = refused_so refusal done
  commit_stopped (stop.Damaged path) done = damaged_so path done
  commit_stopped stop.Failed done = ended_so (Err failure.RepositoryFault) (λ le. omega (arith, le)) (λ none. none) (λ s next is. is) (Err stop.Failed) done done.causes
  commit_stopped stop.Memory done = ended_so (Err failure.Memory) (λ le. omega (arith, le)) (λ none. none) (λ s next is. is) (Err stop.Memory) done tt
  commit_stopped stop.FarFailed done = absurd done.causes
  commit_stopped (stop.FarDamaged path) done = absurd done.causes

  -- ---- by the result, with its stop as a failure

  pub commit_failed : (r : Result (List TroveId) Stop) → Committing repo_disk set old.opened.catalogue c' old.repo new.repo r → (f : Failure) → repository_result r ≡ Err f → ActsOnRepository root_disk repo_disk (commit_of set) input old new (Err f)
  commit_failed (Ok ids) done f is = absurd (cc is)
  commit_failed (Err e) done f is = subst (λ (x : Result (List TroveId) Failure). IfErr x (λ k. ActsOnRepository root_disk repo_disk (commit_of set) input old new (Err k))) is (commit_stopped e done)

  pub commit_made : (r : Result (List TroveId) Stop) → Committing repo_disk set old.opened.catalogue c' old.repo new.repo r → (ids : List TroveId) → repository_result r ≡ Ok ids → Committing repo_disk set old.opened.catalogue c' old.repo new.repo (Ok ids)
  commit_made (Ok made) done ids is = subst (λ (x : Result (List TroveId) Failure). IfOk x (λ k. Committing repo_disk set old.opened.catalogue c' old.repo new.repo (Ok k))) is done
  commit_made (Err e) done ids is = absurd (cc is)

-- ---- what a commit leaves for a further command

pub commit_joined : {P : Type 0} {disk : DiskModel P} (set : ChangeSet) (c c' : CatalogueParts) (before now : P) (r : Result (List TroveId) Stop) (ids : List TroveId) → repository_result r ≡ Ok ids → EndsSo disk set c c' before now r → IsJoined disk c' before now
commit_joined set c c' before now (Ok made) ids is done = record { holds = done.rests.holds; flag_clear = done.rests.flag_clear; calm = done.calm }
commit_joined set c c' before now (Err e) ids is done = absurd (cc is)

pub commit_rules : (c' : CatalogueParts) (r : Result (List TroveId) Stop) (ids : List TroveId) → repository_result r ≡ Ok ids → OnOk r (IsCatalogue c') → IsCatalogue c'
commit_rules c' (Ok made) ids is rules = rules
commit_rules c' (Err e) ids is rules = absurd (cc is)
