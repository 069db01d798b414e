-- How a command ends whose input is no change set.
use Rattle.std.proofs.Common.{◌≡◌, ℕ, List, Result, Err, refl, subst}
use Rattle.std.specs.Prelude.{IsErrAnd}
use Rattle.cny_laws.specs.system-core.cny-base.declared.refusal.Fault.{Fault}
use Rattle.cny_laws.specs.system-core.cny-base.declared.refusal.Fault.TheVariants as fault
use Rattle.cny_laws.specs.system-core.cny-base.declared.refusal.Refusal.{Refusal}
use Rattle.cny_laws.specs.system-core.tree-disk.Disk.{DiskModel, IsDisk}
use Rattle.cny_laws.specs.system-core.change-set.declared.change.ChangeSet.{ChangeSet}
use Rattle.cny_laws.specs.system-core.change-set.ChangeSet.{IsSetStream}
use Rattle.cny_laws.specs.system-core.change-set.FirstFault.{IsFaultOf}
use Rattle.cli_call.specs.Alone.{ActsOnRepository, AnswersByContents}
use Rattle.cli_call.specs.Command.{Disks, AreReady, Performs}
use Rattle.cli_call.proofs.Answered.{fault_acted}
use Rattle.cli_call.proofs.CommandLaws.{none_read}
use Rattle.cny_laws.specs.declared.failure.Failure.{Failure}
use Rattle.cny_laws.specs.Failures.{failure_of_fault}
use Rattle.cny_laws.specs.State.{Effect, Meaning, State}
use Rattle.cny_laws.specs.Store.{IsStore}
use Rattle.cny_laws.specs.Stores.{repository_store}
use Rattle.cli_call.specs.SetInput.{HasSetFault}
use Rattle.local_db.proofs.cny-base.Passing.{err_is}
use Rattle.cli_call.proofs.OpenedEnds.{fault_whole}
use Rattle.cli_call.proofs.ReadingEnds.{fault_ends}
use Rattle.cli_call.proofs.StoreLaws.{nothing_done}

module _ {T P : Type 0} {root_disk : DiskModel T} {repo_disk : DiskModel P} (root_disk_laws : IsDisk root_disk) (repo_disk_laws : IsDisk repo_disk) (store_laws : IsStore repository_store) (meaning : Meaning) (input : List ℕ) (m : Disks T P)
    (ready : AreReady root_disk repo_disk m) (refuses : (s : State) (outcome : Result Effect Refusal) → HasSetFault input outcome → meaning.IsOutcome s input outcome)
    (f : Fault) (is : IsFaultOf input f) (only : (set : ChangeSet) → IsSetStream set input → f ≡ fault.Memory) (r : Result (List ℕ) Failure) (ends : IsErrAnd r (λ e. e ≡ failure_of_fault f)) where
  refused : (refusal : Refusal) → f ≡ fault.Refused refusal → (s : State) → meaning.IsOutcome s input (Err refusal)
  refused refusal same s = refuses s (Err refusal) (record { none = λ set spelled. let h = only set spelled in absurd (cc (h, same)); fault = refusal; first = subst (IsFaultOf input) same is; is = refl })

  -- it is refused by its first fault, or memory ran out
  pub no_set : Performs root_disk repo_disk meaning input m m r
  no_set = err_is (Performs root_disk repo_disk meaning input m m) r (failure_of_fault f) ends
      (fault_ends root_disk_laws repo_disk_laws store_laws meaning input m m ready (none_read root_disk_laws repo_disk_laws m m refl refl) f (λ refusal same root repo s stands. refused refusal same s))

  -- the same of a command that works on the repository alone
  pub no_set_acts : ActsOnRepository root_disk repo_disk meaning input m m r
  no_set_acts = err_is (ActsOnRepository root_disk repo_disk meaning input m m) r (failure_of_fault f) ends
      (fault_acted repo_disk_laws store_laws meaning input m ready f (λ refusal same told s rests. refused refusal same s))

  -- the same by the contents that stand whole
  pub no_set_whole : AnswersByContents root_disk repo_disk meaning input m m r
  no_set_whole = err_is (AnswersByContents root_disk repo_disk meaning input m m) r (failure_of_fault f) ends
      (fault_whole root_disk_laws meaning input m m ready (λ told. nothing_done root_disk_laws m.root) (λ told. refl) f (λ refusal same told s has. refused refusal same s))
