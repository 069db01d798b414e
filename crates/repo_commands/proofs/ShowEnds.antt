-- How `showcs` ends, from its input.
use Rattle.std.proofs.Common.{◌≡◌, ℕ, List, Result, Ok, Err, refl, ap, subst}
use Rattle.cli_call.specs.cny-base.declared.refusal.Fault.{Fault}
use Rattle.cli_call.specs.cny-base.declared.refusal.Fault.TheVariants as fault
use Rattle.cli_call.specs.tree-disk.Disk.{DiskModel, IsDisk}
use Rattle.cli_call.specs.change-set.declared.change.ChangeSet.{ChangeSet}
use Rattle.cli_call.specs.change-set.ChangeSet.{IsSetStream}
use Rattle.cli_call.specs.change-set.FirstFault.{IsFaultOf}
use Rattle.cny_report.specs.Changes.{change_text}
use Rattle.cli_call.specs.cny-laws.declared.failure.Failure.{Failure}
use Rattle.cli_call.specs.cny-laws.declared.failure.Failure.TheVariants as failure
use Rattle.cli_call.specs.Alone.{AnswersByLists, PerformsAlone}
use Rattle.cli_call.proofs.Answered.{fault_listed, text_listed}
use Rattle.cli_call.proofs.AloneLaws.{AnswersAlone, alone_reading}
use Rattle.cli_call.specs.Command.{Disks, AreReady, Performs}
use Rattle.cli_call.proofs.CommandLaws.{none_read, performs_reading}
use Rattle.cli_call.specs.cny-laws.Failures.{failure_of_fault}
use Rattle.cli_call.proofs.RootLaws.{root_laws}
use Rattle.cli_call.specs.cny-laws.State.{nothing}
use Rattle.cli_call.specs.cny-laws.Store.{IsStore, NamesDamaged}
use Rattle.cli_call.proofs.StoreLaws.{nothing_done}
use Rattle.cli_call.specs.cny-laws.Stores.{root_store, repository_store}
use Rattle.repo_commands.specs.ShowChangeSet.{show_change_set}

module _ {T P : Type 0} {root_disk : DiskModel T} {repo_disk : DiskModel P} (root_disk_laws : IsDisk root_disk) (repo_disk_laws : IsDisk repo_disk) (store_laws : IsStore repository_store) (input : List ℕ) (m : Disks T P) (ready : AreReady root_disk repo_disk m) where
  -- the change set that was read
  pub shows : (text : List ℕ) (set : ChangeSet) → IsSetStream set input → text ≡ change_text set → Performs root_disk repo_disk show_change_set input m m (Ok text)
  shows text set spelled is = performs_reading root_disk_laws repo_disk_laws root_laws store_laws show_change_set input m m ready (none_read root_disk_laws repo_disk_laws m m refl refl) (Ok text) tt
      (λ root repo s stands. (set, spelled, ap (λ (t : List ℕ). record { change = nothing; out = t }) is))

  -- or none
  pub memory_out : Performs root_disk repo_disk show_change_set input m m (Err failure.Memory)
  memory_out = performs_reading root_disk_laws repo_disk_laws root_laws store_laws show_change_set input m m ready (none_read root_disk_laws repo_disk_laws m m refl refl) (Err failure.Memory) tt tt

  pub shows_none : (f : Fault) → IsFaultOf input f → ((set : ChangeSet) → IsSetStream set input → f ≡ fault.Memory) → Performs root_disk repo_disk show_change_set input m m (Err (failure_of_fault f))
  shows_none (fault.Refused r) is only = performs_reading root_disk_laws repo_disk_laws root_laws store_laws show_change_set input m m ready (none_read root_disk_laws repo_disk_laws m m refl refl) (Err (failure.Refused r)) tt
      (λ root repo s stands. (is, λ set spelled. let h = only set spelled in absurd (cc h)))
  shows_none fault.Memory is only = memory_out

-- ---- whatever the repository's disk tells or stores

module _ {T P : Type 0} {root_disk : DiskModel T} (repo_disk : DiskModel P) (root_disk_laws : IsDisk root_disk) (input : List ℕ) (m : Disks T P) where
  alone : (result : Result (List ℕ) Failure) → NamesDamaged root_store root_disk m.root result → AnswersAlone root_disk show_change_set input m.root result → PerformsAlone root_disk repo_disk show_change_set input m m result
  alone result damaged answers = alone_reading repo_disk root_disk_laws root_laws show_change_set input m m result refl (λ told. nothing_done root_disk_laws m.root) answers damaged

  pub shows_alone : (text : List ℕ) (set : ChangeSet) → IsSetStream set input → text ≡ change_text set → PerformsAlone root_disk repo_disk show_change_set input m m (Ok text)
  shows_alone text set spelled is = alone (Ok text) (λ path named. absurd (cc named)) (λ told s rests. (set, spelled, ap (λ (t : List ℕ). record { change = nothing; out = t }) is))

  pub memory_out_alone : PerformsAlone root_disk repo_disk show_change_set input m m (Err failure.Memory)
  memory_out_alone = alone (Err failure.Memory) (λ path named. absurd (cc named)) tt

  pub shows_none_alone : (f : Fault) → IsFaultOf input f → ((set : ChangeSet) → IsSetStream set input → f ≡ fault.Memory) → PerformsAlone root_disk repo_disk show_change_set input m m (Err (failure_of_fault f))
  shows_none_alone (fault.Refused r) is only = alone (Err (failure.Refused r)) (λ path named. absurd (cc named)) (λ told s rests. (is, λ set spelled. let h = only set spelled in absurd (cc h)))
  shows_none_alone fault.Memory is only = memory_out_alone

-- ---- whatever both disks store

module _ {T P : Type 0} {root_disk : DiskModel T} {repo_disk : DiskModel P} (input : List ℕ) (m : Disks T P) where
  pub shows_listed : (text : List ℕ) (set : ChangeSet) → IsSetStream set input → text ≡ change_text set → AnswersByLists root_disk repo_disk show_change_set input m m (Ok text)
  shows_listed text set spelled is = text_listed show_change_set input m text (λ s has. (set, spelled, ap (λ (t : List ℕ). record { change = nothing; out = t }) is))

  pub shows_none_listed : (f : Fault) → IsFaultOf input f → ((set : ChangeSet) → IsSetStream set input → f ≡ fault.Memory) → AnswersByLists root_disk repo_disk show_change_set input m m (Err (failure_of_fault f))
  shows_none_listed f is only = fault_listed show_change_set input m f (λ r same s has. (subst (IsFaultOf input) same is, λ set spelled. let h = only set spelled in absurd (cc (h, same))))

  pub memory_out_listed : AnswersByLists root_disk repo_disk show_change_set input m m (Err failure.Memory)
  memory_out_listed = fault_listed show_change_set input m fault.Memory (λ r same s has. absurd (cc same))
