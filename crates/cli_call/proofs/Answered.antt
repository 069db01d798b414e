-- How a command ends that answers from what was opened, and reads nothing more.
use Rattle.std.proofs.Common.{◌≡◌, ℕ, List, Result, Ok, Err, refl, ap, ◌∙◌, inl}
use Rattle.std.specs.Prelude.{IsTrue}
use Rattle.cny_laws.specs.system-core.cny-base.declared.refusal.Fault.{Fault}
use Rattle.cny_laws.specs.system-core.cny-base.declared.refusal.Fault.TheVariants as fault
use Rattle.cny_laws.specs.system-core.cny-base.declared.refusal.Refusal.{Refusal}
use Rattle.cny_laws.specs.system-core.tree-disk.Disk.{DiskModel, IsDisk}
use Rattle.cny_laws.specs.system-core.tree-disk.Tree.{Name}
use Rattle.cny_laws.specs.declared.failure.Failure.{Failure}
use Rattle.cny_laws.specs.declared.failure.Failure.TheVariants as failure
use Rattle.cli_call.specs.Alone.{ActsOnRepository, AnswersByLists, PerformsAlone}
use Rattle.cny_laws.specs.Call.{HasOpenedLists}
use Rattle.cli_call.specs.Answer.{AnswersSo}
use Rattle.cli_call.specs.Command.{Disks, AreReady, HasFailureCause, Performs, StandsFor}
use Rattle.cny_laws.specs.Failures.{failure_of_fault}
use Rattle.cny_laws.specs.State.{nothing, Effect, Meaning, State}
use Rattle.cny_laws.specs.Store.{IsStore, RestsAt}
use Rattle.cny_laws.specs.Stores.{root_store, repository_store}
use Rattle.cli_call.proofs.AloneLaws.{AnswersAlone, AnswersApart, alone_reading, answered_apart, fault_undamaged}
use Rattle.cli_call.proofs.CommandLaws.{AnswersReading, none_read, performs_reading}
use Rattle.cli_call.proofs.RootLaws.{root_laws}
use Rattle.cli_call.proofs.StoreLaws.{nothing_done}

-- the answer to a fault
abbrev pub result_of : Result (List ℕ) Fault → Result (List ℕ) Failure
result_of (Ok text) = Ok text
result_of (Err f) = Err (failure_of_fault f)

-- no damaged file is named
undamaged : (r : Result (List ℕ) Fault) (path : Name) → result_of r ≡ Err (failure.Damaged path) → ⊥
undamaged (Ok text) path is = cc is
undamaged (Err f) path is = fault_undamaged f path is

-- by what the outcome is on each state that both disks store
module _ {T P : Type 0} {root_disk : DiskModel T} {repo_disk : DiskModel P} (root_disk_laws : IsDisk root_disk) (repo_disk_laws : IsDisk repo_disk) (store_laws : IsStore repository_store) (meaning : Meaning) (input : List ℕ)
    (m : Disks T P) (ready : AreReady root_disk repo_disk m) (outcome : Result Effect Refusal)
    (means : IsTrue root_disk.tells → IsTrue repo_disk.tells → (s : State) → StandsFor root_disk repo_disk m s → (o : Result Effect Refusal) → outcome ≡ o → meaning.IsOutcome s input o) where
  answers : (r : Result (List ℕ) Fault) → AnswersSo outcome r → AnswersReading root_disk repo_disk meaning input m (result_of r)
  answers (Ok text) is = λ root repo s stands. means root repo s stands _ is
  answers (Err (fault.Refused why)) is = λ root repo s stands. means root repo s stands _ is
  answers (Err fault.Memory) is = tt

  cause : (r : Result (List ℕ) Fault) → HasFailureCause root_disk repo_disk m m (result_of r)
  cause (Ok text) = tt
  cause (Err (fault.Refused why)) = tt
  cause (Err fault.Memory) = tt

  pub answered : (r : Result (List ℕ) Fault) → AnswersSo outcome r → Performs root_disk repo_disk meaning input m m (result_of r)
  answered r is = performs_reading root_disk_laws repo_disk_laws root_laws store_laws meaning input m m ready (none_read root_disk_laws repo_disk_laws m m refl refl) (result_of r) (cause r) (answers r is)

-- by what it is on each system that the root stores, whatever the repository's disk tells or stores
module _ {T P : Type 0} {root_disk : DiskModel T} (repo_disk : DiskModel P) (root_disk_laws : IsDisk root_disk) (meaning : Meaning) (input : List ℕ) (m : Disks T P) (outcome : Result Effect Refusal)
    (means : IsTrue root_disk.tells → (s : State) → RestsAt root_store root_disk m.root s.root → (o : Result Effect Refusal) → outcome ≡ o → meaning.IsOutcome s input o) where
  answers_alone : (r : Result (List ℕ) Fault) → AnswersSo outcome r → AnswersAlone root_disk meaning input m.root (result_of r)
  answers_alone (Ok text) is = λ told s rests. means told s rests _ is
  answers_alone (Err (fault.Refused why)) is = λ told s rests. means told s rests _ is
  answers_alone (Err fault.Memory) is = tt

  pub answered_alone : (r : Result (List ℕ) Fault) → AnswersSo outcome r → PerformsAlone root_disk repo_disk meaning input m m (result_of r)
  answered_alone r is = alone_reading repo_disk root_disk_laws root_laws meaning input m m (result_of r) refl (λ told. nothing_done root_disk_laws m.root) (answers_alone r is) (λ path named. absurd (undamaged r path named))

-- by what it is on each state that the repository stores, whatever the root's disk tells or stores
module _ {T P : Type 0} {root_disk : DiskModel T} {repo_disk : DiskModel P} (repo_disk_laws : IsDisk repo_disk) (store_laws : IsStore repository_store) (meaning : Meaning) (input : List ℕ) (m : Disks T P) (ready : AreReady root_disk repo_disk m)
    (outcome : Result Effect Refusal) (means : IsTrue repo_disk.tells → (s : State) → RestsAt repository_store repo_disk m.repo s.repository → (o : Result Effect Refusal) → outcome ≡ o → meaning.IsOutcome s input o) where
  answers_apart : (r : Result (List ℕ) Fault) → AnswersSo outcome r → AnswersApart repo_disk meaning input m.repo (result_of r)
  answers_apart (Ok text) is = λ told s rests. means told s rests _ is
  answers_apart (Err (fault.Refused why)) is = λ told s rests. means told s rests _ is
  answers_apart (Err fault.Memory) is = tt

  pub acted : (r : Result (List ℕ) Fault) → AnswersSo outcome r → ActsOnRepository root_disk repo_disk meaning input m m (result_of r)
  acted r is = answered_apart repo_disk_laws store_laws meaning input m ready (result_of r) (answers_apart r is)

-- an outcome that is a refusal, or memory ran out
pub fault_acted : {T P : Type 0} {root_disk : DiskModel T} {repo_disk : DiskModel P} → IsDisk repo_disk → IsStore repository_store → (meaning : Meaning) (input : List ℕ) (m : Disks T P) → AreReady root_disk repo_disk m → (f : Fault)
    → ((r : Refusal) → f ≡ fault.Refused r → IsTrue repo_disk.tells → (s : State) → RestsAt repository_store repo_disk m.repo s.repository → meaning.IsOutcome s input (Err r)) → ActsOnRepository root_disk repo_disk meaning input m m (Err (failure_of_fault f))
fault_acted repo_disk_laws store_laws meaning input m ready (fault.Refused r) refuses = answered_apart repo_disk_laws store_laws meaning input m ready (Err (failure.Refused r)) (λ told s rests. refuses r refl told s rests)
fault_acted repo_disk_laws store_laws meaning input m ready fault.Memory refuses = answered_apart repo_disk_laws store_laws meaning input m ready (Err failure.Memory) tt

-- by what it is on each state that has the lists which were read when the disks were opened
module _ {T P : Type 0} {root_disk : DiskModel T} {repo_disk : DiskModel P} (meaning : Meaning) (input : List ℕ) (m : Disks T P) where
  pub fault_listed : (f : Fault) → ((r : Refusal) → f ≡ fault.Refused r → (s : State) → HasOpenedLists m.opened s → meaning.IsOutcome s input (Err r)) → AnswersByLists root_disk repo_disk meaning input m m (Err (failure_of_fault f))
  fault_listed (fault.Refused r) refuses = record { root = refl; repo = refl; answers = λ s has. (refuses r refl s has, refl) }
  fault_listed fault.Memory refuses = record { root = refl; repo = refl; answers = λ s has. inl refl }

  pub text_listed : (text : List ℕ) → ((s : State) → HasOpenedLists m.opened s → meaning.IsOutcome s input (Ok (record { change = nothing; out = text }))) → AnswersByLists root_disk repo_disk meaning input m m (Ok text)
  text_listed text is = record { root = refl; repo = refl; answers = λ s has. record { effect = record { change = nothing; out = text }; is = is s has; leads = refl; bytes = refl } }

  pub by_lists : (outcome : Result Effect Refusal) → ((s : State) → HasOpenedLists m.opened s → (o : Result Effect Refusal) → outcome ≡ o → meaning.IsOutcome s input o) → (r : Result (List ℕ) Fault) → AnswersSo outcome r → AnswersByLists root_disk repo_disk meaning input m m (result_of r)
  by_lists outcome means (Ok text) is = text_listed text (λ s has. means s has _ is)
  by_lists outcome means (Err (fault.Refused why)) is = fault_listed (fault.Refused why) (λ r same s has. let one : why ≡ r = cc same in means s has _ (is ∙ ap Err one))
  by_lists outcome means (Err fault.Memory) is = fault_listed fault.Memory (λ r same s has. absurd (cc same))
