-- How `serve` ends.
use Rattle.std.proofs.Common.{◌≡◌, ℕ, ◌≤◌, List, Result, Ok, Err, refl, sym, ap, ◌∙◌, inl, inr, subst}
use Rattle.std.specs.Prelude.{IsTrue}
use Rattle.cli_call.specs.cny-base.declared.stop.Stop.{Stop}
use Rattle.cli_call.specs.cny-base.declared.stop.Stop.TheVariants as stop
use Rattle.cli_call.specs.tree-disk.Tree.{Name, Tree}
use Rattle.cli_call.specs.tree-disk.Disk.{DiskModel, HasRead, IsDisk}
use Rattle.cli_call.specs.tree-disk.Clear.{is_within}
use Rattle.cli_call.specs.tree-disk.Confined.{Among}
use Rattle.cli_call.proofs.tree-disk.ConfinedLaws.{confined_read}
use Rattle.cli_call.specs.tree-journal.Recovery.{is_committed}
use Rattle.cli_call.specs.trove-stream.declared.parts.TroveParts.{TroveParts}
use Rattle.repo_index.specs.Catalogue.{CatalogueParts}
use Rattle.repo_load.specs.Files.{repository_base, HoldsCatalogue, StoresRepository}
use Rattle.repo_load.specs.State.{troves_of, RepositoryState}
use Rattle.repo_serve.specs.Serving.{IsDamagedReply, Serves}
use Rattle.cli_call.specs.cny-laws.declared.failure.Failure.{Failure}
use Rattle.cli_call.specs.cny-laws.declared.failure.Failure.TheVariants as failure
use Rattle.cli_call.specs.cny-laws.declared.opened.Opened.{Opened}
use Rattle.cli_call.specs.Alone.{ActsOnRepository}
use Rattle.cli_call.specs.Command.{disks, AnswersAs, AreReady, HasFailureCause, end_of}
use Rattle.cli_call.proofs.CommandLaws.{goes_read}
use Rattle.cli_call.proofs.ReadingEnds.{CatalogueIs, troves_at}
use Rattle.cli_call.proofs.StoreLaws.{read_settled}
use Rattle.cli_call.specs.cny-laws.State.{nothing, Meaning, State}
use Rattle.cli_call.specs.cny-laws.Stops.{repository_result}
use Rattle.cli_call.specs.cny-laws.Store.{HasDamagedFile, IsStore, NamesDamaged, RestsAt}
use Rattle.cli_call.specs.cny-laws.Stores.{HasUnsoundContent, repository_store}
use Rattle.repo_commands.specs.Serving.{serve}

-- the laws that are called upon
pub record ServingLaws : Type 0 where
  pub catalogue : CatalogueIs
  pub undamaged : (x : Tree) (r : RepositoryState) (stream : List ℕ) (path : Name) → StoresRepository x r → IsDamagedReply (troves_of r.commits) stream x path → ⊥
  pub store : IsStore repository_store

-- a content that can't be sent is damaged
unsound : (tree : Tree) (catalogue : CatalogueParts) (stream : List ℕ) (path : Name) → HoldsCatalogue tree catalogue → IsDamagedReply catalogue.troves stream tree path → HasUnsoundContent tree path
unsound tree catalogue stream path holds d = let content = d.damaged.unsound in record {
  catalogue = catalogue;
  holds = holds;
  name = d.damaged.name;
  size = content.size;
  recorded = content.recorded;
  here = content.here;
  none = content.none;
}

-- ---- of a command that only reads the repository

-- what it answers from a state whose repository the repository's disk stores, whatever root the state has
abbrev AnswersFar : {P : Type 0} → DiskModel P → Meaning → List ℕ → P → Result (List ℕ) Failure → Type 0
AnswersFar repo_disk m input repo (Ok text) = IsTrue repo_disk.tells → (s : State) → RestsAt repository_store repo_disk repo s.repository → m.IsOutcome s input (Ok (record { change = nothing; out = text }))
AnswersFar repo_disk m input repo (Err (failure.Refused r)) = IsTrue repo_disk.tells → (s : State) → RestsAt repository_store repo_disk repo s.repository → m.IsOutcome s input (Err r)
AnswersFar repo_disk m input repo (Err (failure.Damaged path)) = IsTrue repo_disk.tells → (s : State) → RestsAt repository_store repo_disk repo s.repository → ⊥
AnswersFar repo_disk m input repo (Err failure.RepositoryFault) = Unit {0}
AnswersFar repo_disk m input repo (Err failure.Memory) = Unit {0}
AnswersFar repo_disk m input repo _ = ⊥

module _ {T P : Type 0} {root_disk : DiskModel T} {repo_disk : DiskModel P} (repo_laws : IsDisk repo_disk) (store_laws : IsStore repository_store) (m : Meaning) (input : List ℕ) (root : T) (repo repo' : P) (opened : Opened)
    (ready : AreReady root_disk repo_disk (disks root repo opened)) (later : repo_disk.faults repo ≤ repo_disk.faults repo') (read : IsTrue repo_disk.tells → HasRead repo_disk repo repo' (Unit {0})) where
  answers_far : (s : State) → IsTrue repo_disk.tells → RestsAt repository_store repo_disk repo s.repository → (result : Result (List ℕ) Failure) → AnswersFar repo_disk m input repo result → AnswersAs (m.IsOutcome s input) s s result
  answers_far s told rests (Ok text) h = record { effect = record { change = nothing; out = text }; is = h told s rests; leads = refl; bytes = refl }
  answers_far s told rests (Err (failure.Refused r)) h = (h told s rests, refl)
  answers_far s told rests (Err (failure.Damaged path)) h = absurd (h told s rests)
  answers_far s told rests (Err failure.RepositoryFault) h = inl refl
  answers_far s told rests (Err failure.Memory) h = inl refl
  answers_far s told rests _ h = absurd h

  acts_reading : (result : Result (List ℕ) Failure) → HasFailureCause root_disk repo_disk (disks root repo opened) (disks root repo' opened) result → NamesDamaged repository_store repo_disk repo' result → AnswersFar repo_disk m input repo result
      → ActsOnRepository root_disk repo_disk m input (disks root repo opened) (disks root repo' opened) result
  acts_reading result cause damaged answers = record {
    root = refl;
    later = later;
    cause = cause;
    damaged = damaged;
    rest = λ le told. read_settled (read told) (ready.repo told).settled.flag_clear (ready.repo told).settled.synced;
    same = λ none told. (read told).same.reads;
    within = λ told. confined_read repo_laws (Among (is_within repository_base)) (read told);
    told = λ told s rests. record {
      next = s.repository;
      answers = answers_far s told rests result answers;
      goes = goes_read store_laws repo_laws repo repo' s.repository (end_of result) (read told) rests;
    };
  }

-- ---- `serve`

module _ {T P : Type 0} {root_disk : DiskModel T} {repo_disk : DiskModel P} (repo_laws : IsDisk repo_disk) (laws : ServingLaws) (input : List ℕ) (root : T) (repo repo' : P) (opened : Opened)
    (ready : AreReady root_disk repo_disk (disks root repo opened)) where
  abbrev WasServed : Result (List ℕ) Stop → Type 0
  WasServed r = Serves repo_disk opened.catalogue.troves input repo repo' r

  damaged_file : (path : Name) → WasServed (Err (stop.Damaged path)) → IsTrue repo_disk.tells → HasDamagedFile repository_store (repo_disk.reads repo') path
  damaged_file path served told =
      let same : repo_disk.reads repo' ≡ repo_disk.reads repo = (served.same told).same.reads in
      let file : HasUnsoundContent (repo_disk.reads repo) path = unsound (repo_disk.reads repo) opened.catalogue input path (ready.repo told).catalogue (served.ends told) in record {
        flag_clear = ap (is_committed repository_store.base) same ∙ (ready.repo told).settled.flag_clear;
        damaged = inr (inr (subst (λ (t : Tree). HasUnsoundContent t path) (sym same) file));
      }

  never_damaged : (path : Name) → WasServed (Err (stop.Damaged path)) → IsTrue repo_disk.tells → (s : State) → RestsAt repository_store repo_disk repo s.repository → ⊥
  never_damaged path served told s rests =
      let same = troves_at laws.catalogue (disks root repo opened) ready told s rests in
      laws.undamaged (repo_disk.reads repo) s.repository input path rests.stored
      (subst (λ (l : List TroveParts). IsDamagedReply l input (repo_disk.reads repo) path) same (served.ends told))

  pub served_ends : (r : Result (List ℕ) Stop) → WasServed r → ActsOnRepository root_disk repo_disk serve input (disks root repo opened) (disks root repo' opened) (repository_result r)
  served_ends (Ok bytes) served = acts_reading repo_laws laws.store serve input root repo repo' opened ready served.later served.same (Ok bytes) tt (λ path named. absurd (cc named))
      (λ told s rests. (bytes, served.ends told s.repository rests.stored, refl))
  served_ends (Err (stop.Refused refused)) served = acts_reading repo_laws laws.store serve input root repo repo' opened ready served.later served.same (Err (failure.Refused refused)) tt (λ path named. absurd (cc named))
      (λ told s rests. served.ends told s.repository rests.stored)
  served_ends (Err (stop.Damaged path)) served = acts_reading repo_laws laws.store serve input root repo repo' opened ready served.later served.same (Err (failure.Damaged path)) (inr (damaged_file path served))
      (λ file named. let same : path ≡ file = cc named in subst (λ (p : Name). IsTrue repo_disk.tells → HasDamagedFile repository_store (repo_disk.reads repo') p) same (damaged_file path served))
      (never_damaged path served)
  served_ends (Err stop.Failed) served = acts_reading repo_laws laws.store serve input root repo repo' opened ready served.later served.same (Err failure.RepositoryFault) served.ends (λ path named. absurd (cc named)) tt
  served_ends (Err stop.Memory) served = acts_reading repo_laws laws.store serve input root repo repo' opened ready served.later served.same (Err failure.Memory) tt (λ path named. absurd (cc named)) tt
  served_ends (Err stop.FarFailed) served = absurd served.ends
  served_ends (Err (stop.FarDamaged path)) served = absurd served.ends
