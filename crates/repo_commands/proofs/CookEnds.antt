-- How `cook` ends, from what the reading of the manifest, the next version and the commit say.
use Rattle.std.proofs.Common.{◌≡◌, inl, inr, ℕ, Bool, List, Result, Ok, Err, refl, sym, ap, ◌∙◌, subst}
use Rattle.cli_call.specs.cny-base.declared.refusal.Fault.{Fault}
use Rattle.cli_call.specs.cny-base.declared.refusal.Fault.TheVariants as fault
use Rattle.cli_call.specs.cny-base.declared.refusal.Refusal.{Refusal}
use Rattle.cli_call.specs.tree-disk.Disk.{DiskModel, IsDisk}
use Rattle.cli_call.specs.trove-stream.declared.parts.TroveParts.{TroveParts}
use Rattle.cli_call.specs.change-set.declared.change.ChangeSet.{ChangeSet}
use Rattle.cny_manifest.specs.declared.made.Made.{Made}
use Rattle.cny_manifest.specs.FirstFault.{IsFaultOf}
use Rattle.cny_manifest.specs.Makes.{Makes}
use Rattle.repo_load.specs.State.{troves_of}
use Rattle.repo_index.specs.Catalogue.{CatalogueParts}
use Rattle.repo_index.specs.Steps.{IsErrOrMemory}
use Rattle.cli_call.specs.cny-laws.declared.failure.Failure.{Failure}
use Rattle.cli_call.specs.Alone.{ActsOnRepository, AnswersByContents}
use Rattle.cli_call.specs.cny-laws.Call.{HasOpened}
use Rattle.cli_call.specs.cny-laws.State.{State}
use Rattle.cli_call.proofs.OpenedEnds.{contents_more, fault_whole}
use Rattle.cli_call.proofs.StoreLaws.{nothing_done}
use Rattle.cli_call.specs.Command.{Disks, AreReady}
use Rattle.cli_call.proofs.Answered.{fault_acted}
use Rattle.cli_call.proofs.CommandLaws.{acts_more}
use Rattle.cli_call.specs.cny-laws.Failures.{failure_of_fault}
use Rattle.cli_call.specs.cny-laws.Store.{IsStore}
use Rattle.cli_call.specs.cny-laws.Stores.{repository_store}
use Rattle.repo_commands.specs.Commit.{commit_of}
use Rattle.repo_commands.specs.Cook.{cook, cooked_set, CommitsSet}
use Rattle.cli_call.proofs.ReadingEnds.{CatalogueIs, troves_at}

module _ {T P : Type 0} {root_disk : DiskModel T} {repo_disk : DiskModel P} (repo_disk_laws : IsDisk repo_disk) (store_laws : IsStore repository_store) (law : CatalogueIs) (next : Bool) (input : List ℕ)
    (old : Disks T P) (ready : AreReady root_disk repo_disk old) where
  -- the input is no manifest
  pub not_read : (f : Fault) → IsFaultOf input f → ActsOnRepository root_disk repo_disk (cook next) input old old (Err (failure_of_fault f))
  not_read f is = fault_acted repo_disk_laws store_laws (cook next) input old ready f (λ r same told s rests. inr (record { fault = r; first = subst (IsFaultOf input) same is; is = refl }))

  module _ (made : Made) (makes : Makes input made) where
    -- there is no next version
    pub no_set : (f : Fault) → IsErrOrMemory (cooked_set next old.opened.catalogue.troves made) f → ActsOnRepository root_disk repo_disk (cook next) input old old (Err (failure_of_fault f))
    no_set f is = fault_acted repo_disk_laws store_laws (cook next) input old ready f (λ r same told s rests. inl (record {
      made = made;
      makes = makes;
      is =
          let err : cooked_set next old.opened.catalogue.troves made ≡ Err r = subst (IsErrOrMemory (cooked_set next old.opened.catalogue.troves made)) same is in
          let of : cooked_set next (troves_of s.repository.commits) made ≡ Err r = ap (λ (l : List TroveParts). cooked_set next l made) (sym (troves_at law old ready told s rests)) ∙ err in
          subst (λ (made_so : Result ChangeSet Refusal). CommitsSet s.repository made_so (Err r)) (sym of) refl;
    }))

    -- the change set is committed
    pub cooked : (set : ChangeSet) → cooked_set next old.opened.catalogue.troves made ≡ Ok set → (new : Disks T P) (result : Result (List ℕ) Failure) → ActsOnRepository root_disk repo_disk (commit_of set) input old new result → ActsOnRepository root_disk repo_disk (cook next) input old new result
    cooked set is new result done = acts_more (commit_of set) (cook next) input input old new result
        (λ told s rests outcome commits.
        let of : cooked_set next (troves_of s.repository.commits) made ≡ Ok set = ap (λ (l : List TroveParts). cooked_set next l made) (sym (troves_at law old ready told s rests)) ∙ is in
        inl (record { made = made; makes = makes; is = subst (λ (made_so : Result ChangeSet Refusal). CommitsSet s.repository made_so outcome) (sym of) commits }))
        done

-- ---- by the catalogue and the contents that stand whole

module _ {T P : Type 0} {root_disk : DiskModel T} {repo_disk : DiskModel P} (root_disk_laws : IsDisk root_disk) (next : Bool) (input : List ℕ) (old : Disks T P) (ready : AreReady root_disk repo_disk old) where
  fails_whole : (f : Fault) → ((r : Refusal) → f ≡ fault.Refused r → (s : State) → HasOpened root_disk old.root old.opened s → (let m = cook next in m.IsOutcome s input (Err r))) → AnswersByContents root_disk repo_disk (cook next) input old old (Err (failure_of_fault f))
  fails_whole f refuses = fault_whole root_disk_laws (cook next) input old old ready (λ told. nothing_done root_disk_laws old.root) (λ told. refl) f (λ r same told s has. refuses r same s has)

  -- the input is no manifest
  pub not_read_whole : (f : Fault) → IsFaultOf input f → AnswersByContents root_disk repo_disk (cook next) input old old (Err (failure_of_fault f))
  not_read_whole f is = fails_whole f (λ r same s has. inr (record { fault = r; first = subst (IsFaultOf input) same is; is = refl }))

  module _ (made : Made) (makes : Makes input made) where
    cooked_on : (s : State) → HasOpened root_disk old.root old.opened s → (o : Result ChangeSet Refusal) → cooked_set next old.opened.catalogue.troves made ≡ o → cooked_set next (troves_of s.repository.commits) made ≡ o
    cooked_on s has o is = ap (λ (c : CatalogueParts). cooked_set next c.troves made) has.catalogue ∙ is

    -- there is no next version
    pub no_set_whole : (f : Fault) → IsErrOrMemory (cooked_set next old.opened.catalogue.troves made) f → AnswersByContents root_disk repo_disk (cook next) input old old (Err (failure_of_fault f))
    no_set_whole f is = fails_whole f (λ r same s has. inl (record {
      made = made;
      makes = makes;
      is = subst (λ (set : Result ChangeSet Refusal). CommitsSet s.repository set (Err r)) (sym (cooked_on s has (Err r) (subst (IsErrOrMemory (cooked_set next old.opened.catalogue.troves made)) same is))) refl;
    }))

    -- the change set is committed
    pub cooked_whole : (set : ChangeSet) → cooked_set next old.opened.catalogue.troves made ≡ Ok set → (new : Disks T P) (result : Result (List ℕ) Failure) → AnswersByContents root_disk repo_disk (commit_of set) input old new result
        → AnswersByContents root_disk repo_disk (cook next) input old new result
    cooked_whole set is new result done = contents_more (commit_of set) (cook next) input input old new result
        (λ s has outcome commits. inl (record { made = made; makes = makes; is = subst (λ (made_so : Result ChangeSet Refusal). CommitsSet s.repository made_so outcome) (sym (cooked_on s has (Ok set) is)) commits }))
        done
