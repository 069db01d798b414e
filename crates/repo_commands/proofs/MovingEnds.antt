-- How `shadow` and `branch` end.
use Rattle.std.proofs.Common.{◌≡◌, ℕ, List, [], map, Result, Ok, Err, refl, sym, ap, inl, inr, subst}
use Rattle.std.specs.Prelude.{IsTrue}
use Rattle.std.proofs.lemmas.List.Elements.{All-nil}
use Rattle.cli_call.specs.cny-base.declared.refusal.Fault.{Fault}
use Rattle.cli_call.specs.cny-base.declared.refusal.Fault.TheVariants as fault
use Rattle.cli_call.specs.cny-base.declared.refusal.Refusal.{Refusal}
use Rattle.cny_version.specs.Label.{LabelParts}
use Rattle.cli_call.specs.tree-disk.Disk.{DiskModel, IsDisk}
use Rattle.cli_call.specs.trove-parts.declared.id.TroveId.{TroveId}
use Rattle.cli_call.specs.trove-stream.declared.parts.TroveParts.{TroveParts}
use Rattle.trove_spec.specs.declared.config.Config.{Config}
use Rattle.cli_call.specs.change-set.declared.change.ChangeSet.{ChangeSet}
use Rattle.cli_call.specs.change-set.declared.change.Part.TheVariants.{Whole}
use Rattle.cli_call.specs.change-set.ChangeSet.{HasContents, IsContentOf}
use Rattle.repo_index.specs.Catalogue.{CatalogueParts}
use Rattle.repo_load.specs.State.{troves_of}
use Rattle.repo_shadow.specs.declared.way.Way.{Way}
use Rattle.repo_shadow.specs.Moved.{IsMovedExpansion, IsUnmoved}
use Rattle.repo_commands.specs.Commit.{commit_of, Commits}
use Rattle.trove_spec.specs.RootConfig.{HasConfig, ReadsConfig}
use Rattle.cli_call.specs.cny-laws.declared.failure.Failure.{Failure}
use Rattle.cli_call.specs.cny-laws.declared.opened.Opened.{Opened}
use Rattle.cli_call.specs.cny-laws.Call.{HasOpened}
use Rattle.cli_call.specs.Alone.{AnswersByOpened}
use Rattle.cli_call.specs.Command.{Disks, disks, AreReady, Performs, StandsFor}
use Rattle.cli_call.proofs.CommandLaws.{AreRead}
use Rattle.cli_call.specs.cny-laws.Failures.{failure_of_fault}
use Rattle.cli_call.specs.cny-laws.State.{tree_of, Effect, State}
use Rattle.cli_call.specs.cny-laws.Store.{IsStore}
use Rattle.cli_call.specs.cny-laws.Stores.{repository_store}
use Rattle.trove_spec.specs.declared.given.GivenSpec.{GivenSpec}
use Rattle.trove_spec.specs.AndThen.{AndThen, EndsAs}
use Rattle.trove_spec.specs.Meant.{Means}
use Rattle.repo_commands.specs.Moving.{move, set_of_troves, IsMoved, Moves}
use Rattle.cli_call.proofs.AfterReading.{performs_since}
use Rattle.cli_call.proofs.OpenedEnds.{fault_opened, opened_since}
use Rattle.cli_call.proofs.ReadingEnds.{configuration, fault_ends, file_at, file_opened, root_read, troves_are, CatalogueIs}
use Rattle.repository.proofs.change-set.Carrying.{no_carried as nothing_rises}

-- a set without contents carries just those of its parts
pub no_contents : (troves : List TroveParts) → HasContents (set_of_troves troves)
no_contents troves = record { contents = All-nil (IsContentOf ((set_of_troves troves).parts)); rising = nothing_rises }

-- the change set of these parts, without contents
pub set_is : (set : ChangeSet) (troves : List TroveParts) → set.parts ≡ map Whole troves → set.contents ≡ [] → set ≡ set_of_troves troves
set_is set troves parts contents = λ i. record { parts = parts i; contents = contents i }

pub unmoved : (way : Way) (label : LabelParts) (troves : List TroveParts) (root : TroveId) (f : Fault) → IsUnmoved way label troves root f → EndsAs (IsMoved way label troves root) (Err f)
unmoved way label troves root (fault.Refused refused) is = is
unmoved way label troves root fault.Memory is = tt

-- a configuration that is refused is refused of the command
pub refused_config : (way : Way) (label : LabelParts) (given : GivenSpec) (s : State) (refused : Refusal) → HasConfig (tree_of s.root) (Err refused) → Moves s way label given (Err refused)
refused_config way label given s refused has = inr (record { refusal = refused; refused = has; is = refl })

module _ {T P : Type 0} {root_disk : DiskModel T} {repo_disk : DiskModel P} (root_disk_laws : IsDisk root_disk) (repo_disk_laws : IsDisk repo_disk) (law : CatalogueIs) (store_laws : IsStore repository_store)
    (way : Way) (label : LabelParts) (given : GivenSpec) (input : List ℕ)
    (root root' : T) (repo : P) (opened : Opened) (ready : AreReady root_disk repo_disk (disks root repo opened)) (config : Config) (configured : ReadsConfig root_disk root root' (Ok config)) where
  same_troves : IsTrue repo_disk.tells → (s : State) → StandsFor root_disk repo_disk (disks root repo opened) s → opened.catalogue.troves ≡ troves_of s.repository.commits
  same_troves told s stands = troves_are law (disks root repo opened) ready told s stands

  with_config : IsTrue root_disk.tells → (s : State) → StandsFor root_disk repo_disk (disks root repo opened) s → (outcome : Result Effect Refusal)
      → AndThen (Means (troves_of s.repository.commits) config given) (λ (id : TroveId). AndThen (IsMoved way label (troves_of s.repository.commits) id) (λ (made : List TroveParts). Commits (set_of_troves made) s.repository)) outcome
      → Moves s way label given outcome
  with_config told s stands outcome rest = inl (record { value = config; found = file_at configuration (disks root repo opened) (Ok config) (configured.ends told) s stands; rest = rest })

  only_read : AreRead root_disk repo_disk (disks root repo opened) (disks root' repo opened)
  only_read = root_read root_disk_laws repo_disk_laws root root' repo opened configured.later configured.same

  -- the specification means no trove
  pub meant_fails : (f : Fault) → EndsAs (Means opened.catalogue.troves config given) (Err f) → Performs root_disk repo_disk (move way label given) input (disks root repo opened) (disks root' repo opened) (Err (failure_of_fault f))
  meant_fails f ends = fault_ends root_disk_laws repo_disk_laws store_laws (move way label given) input (disks root repo opened) (disks root' repo opened) ready only_read f
      (λ refused is told repo_told s stands.
      let fails : Means opened.catalogue.troves config given (Err refused) = subst (λ (g : Fault). EndsAs (Means opened.catalogue.troves config given) (Err g)) is ends in
      let refuses : Means (troves_of s.repository.commits) config given (Err refused) = subst (λ (l : List TroveParts). Means l config given (Err refused)) (same_troves repo_told s stands) fails in
      with_config told s stands (Err refused) (inr (record { refusal = refused; refused = refuses; is = refl })))

  module _ (id : TroveId) (is_meant : Means opened.catalogue.troves config given (Ok id)) where
    with_root : IsTrue root_disk.tells → IsTrue repo_disk.tells → (s : State) → StandsFor root_disk repo_disk (disks root repo opened) s → (outcome : Result Effect Refusal)
        → AndThen (IsMoved way label (troves_of s.repository.commits) id) (λ (made : List TroveParts). Commits (set_of_troves made) s.repository) outcome → Moves s way label given outcome
    with_root told repo_told s stands outcome rest = with_config told s stands outcome (inl (record {
      value = id;
      found = subst (λ (l : List TroveParts). Means l config given (Ok id)) (same_troves repo_told s stands) is_meant;
      rest = rest;
    }))

    -- it can't be moved
    pub moved_fails : (f : Fault) → EndsAs (IsMoved way label opened.catalogue.troves id) (Err f) → Performs root_disk repo_disk (move way label given) input (disks root repo opened) (disks root' repo opened) (Err (failure_of_fault f))
    moved_fails f ends = fault_ends root_disk_laws repo_disk_laws store_laws (move way label given) input (disks root repo opened) (disks root' repo opened) ready only_read f
        (λ refused is told repo_told s stands.
        let fails : IsMoved way label opened.catalogue.troves id (Err refused) = subst (λ (g : Fault). EndsAs (IsMoved way label opened.catalogue.troves id) (Err g)) is ends in
        let refuses : IsMoved way label (troves_of s.repository.commits) id (Err refused) = subst (λ (l : List TroveParts). IsMoved way label l id (Err refused)) (same_troves repo_told s stands) fails in
        with_root told repo_told s stands (Err refused) (inr (record { refusal = refused; refused = refuses; is = refl })))

    -- memory ran out before the commit
    pub memory_ends : Performs root_disk repo_disk (move way label given) input (disks root repo opened) (disks root' repo opened) (Err (failure_of_fault fault.Memory))
    memory_ends = fault_ends root_disk_laws repo_disk_laws store_laws (move way label given) input (disks root repo opened) (disks root' repo opened) ready only_read fault.Memory (λ refused is told repo_told s stands. absurd (cc is))

    -- what was moved is committed
    pub moved_ends : (made : List TroveParts) → IsMovedExpansion way label opened.catalogue.troves id made → (new : Disks T P) (result : Result (List ℕ) Failure)
        → Performs root_disk repo_disk (commit_of (set_of_troves made)) input (disks root' repo opened) new result → Performs root_disk repo_disk (move way label given) input (disks root repo opened) new result
    moved_ends made is new result done = performs_since root_disk_laws repo_disk_laws store_laws (disks root repo opened) (disks root' repo opened) new only_read result (commit_of (set_of_troves made)) (move way label given) input input
        (λ told repo_told s stands outcome commits. with_root told repo_told s stands outcome (inl (record {
          value = made;
          found = subst (λ (l : List TroveParts). IsMoved way label l id (Ok made)) (same_troves repo_told s stands) is;
          rest = commits;
        })))
        done

-- ---- by what was read when the disks were opened

-- by a state that has the configuration and the troves which were read
module _ (way : Way) (label : LabelParts) (given : GivenSpec) (s : State) (troves : List TroveParts) (same : troves ≡ troves_of s.repository.commits) (config : Config) (found : HasConfig (tree_of s.root) (Ok config)) where
  with_found : (outcome : Result Effect Refusal) → AndThen (Means (troves_of s.repository.commits) config given) (λ (id : TroveId). AndThen (IsMoved way label (troves_of s.repository.commits) id) (λ (made : List TroveParts). Commits (set_of_troves made) s.repository)) outcome → Moves s way label given outcome
  with_found outcome rest = inl (record { value = config; found = found; rest = rest })

  pub unmeant_so : (refused : Refusal) → Means troves config given (Err refused) → Moves s way label given (Err refused)
  unmeant_so refused fails = with_found (Err refused) (inr (record { refusal = refused; refused = subst (λ (l : List TroveParts). Means l config given (Err refused)) same fails; is = refl }))

  module _ (id : TroveId) (is_meant : Means troves config given (Ok id)) where
    with_meant : (outcome : Result Effect Refusal) → AndThen (IsMoved way label (troves_of s.repository.commits) id) (λ (made : List TroveParts). Commits (set_of_troves made) s.repository) outcome → Moves s way label given outcome
    with_meant outcome rest = with_found outcome (inl (record { value = id; found = subst (λ (l : List TroveParts). Means l config given (Ok id)) same is_meant; rest = rest }))

    pub unmoved_so : (refused : Refusal) → IsMoved way label troves id (Err refused) → Moves s way label given (Err refused)
    unmoved_so refused fails = with_meant (Err refused) (inr (record { refusal = refused; refused = subst (λ (l : List TroveParts). IsMoved way label l id (Err refused)) same fails; is = refl }))

    pub moved_so : (made : List TroveParts) → IsMovedExpansion way label troves id made → (outcome : Result Effect Refusal) → Commits (set_of_troves made) s.repository outcome → Moves s way label given outcome
    moved_so made is outcome commits = with_meant outcome (inl (record { value = made; found = subst (λ (l : List TroveParts). IsMoved way label l id (Ok made)) same is; rest = commits }))

module _ {T P : Type 0} {root_disk : DiskModel T} {repo_disk : DiskModel P} (root_disk_laws : IsDisk root_disk) (repo_disk_laws : IsDisk repo_disk) (way : Way) (label : LabelParts) (given : GivenSpec) (input : List ℕ)
    (root root' : T) (repo : P) (opened : Opened) (ready : AreReady root_disk repo_disk (disks root repo opened)) (config : Config) (configured : ReadsConfig root_disk root root' (Ok config)) where
  abbrev pub Answered : Failure → Type 0
  Answered f = AnswersByOpened root_disk repo_disk (move way label given) input (disks root repo opened) (disks root' repo opened) (Err f)

  found_in : IsTrue root_disk.tells → (s : State) → HasOpened root_disk root opened s → HasConfig (tree_of s.root) (Ok config)
  found_in told s has = file_opened configuration root opened (Ok config) (configured.ends told) s has

  troves_in : (s : State) → HasOpened root_disk root opened s → opened.catalogue.troves ≡ troves_of s.repository.commits
  troves_in s has = ap (λ (c : CatalogueParts). c.troves) (sym has.catalogue)

  fails_opened : (f : Fault) → ((refused : Refusal) → f ≡ fault.Refused refused → (s : State) → opened.catalogue.troves ≡ troves_of s.repository.commits → HasConfig (tree_of s.root) (Ok config) → Moves s way label given (Err refused)) → Answered (failure_of_fault f)
  fails_opened f refuses = fault_opened root_disk_laws (move way label given) input (disks root repo opened) (disks root' repo opened) ready configured.same (λ told. refl) f
      (λ refused is told s has. refuses refused is s (troves_in s has) (found_in told s has))

  pub meant_opened : (f : Fault) → EndsAs (Means opened.catalogue.troves config given) (Err f) → Answered (failure_of_fault f)
  meant_opened f ends = fails_opened f (λ refused is s same found. unmeant_so way label given s opened.catalogue.troves same config found refused (subst (λ (g : Fault). EndsAs (Means opened.catalogue.troves config given) (Err g)) is ends))

  module _ (id : TroveId) (is_meant : Means opened.catalogue.troves config given (Ok id)) where
    pub moved_opened : (f : Fault) → EndsAs (IsMoved way label opened.catalogue.troves id) (Err f) → Answered (failure_of_fault f)
    moved_opened f ends = fails_opened f (λ refused is s same found. unmoved_so way label given s opened.catalogue.troves same config found id is_meant refused (subst (λ (g : Fault). EndsAs (IsMoved way label opened.catalogue.troves id) (Err g)) is ends))

    pub committed_opened : (made : List TroveParts) → IsMovedExpansion way label opened.catalogue.troves id made → (new : Disks T P) (result : Result (List ℕ) Failure)
        → AnswersByOpened root_disk repo_disk (commit_of (set_of_troves made)) input (disks root' repo opened) new result → AnswersByOpened root_disk repo_disk (move way label given) input (disks root repo opened) new result
    committed_opened made is new result done = opened_since root_disk_laws (commit_of (set_of_troves made)) (move way label given) input input (disks root repo opened) (disks root' repo opened) new result ready
        (root_read root_disk_laws repo_disk_laws root root' repo opened configured.later configured.same) refl
        (λ told s has outcome commits. moved_so way label given s opened.catalogue.troves (troves_in s has) config (found_in told s has) id is_meant made is outcome commits) done
