-- How a command ends that only reads the root.
use Rattle.std.proofs.Common.{◌≤◌, ℕ, List, Result, Ok, Err, refl, arith}
use Rattle.std.specs.Prelude.{IsTrue}
use Rattle.cny_laws.specs.system-core.tree-disk.Disk.{DiskModel, IsDisk, HasRead}
use Rattle.cny_laws.specs.declared.failure.Failure.{Failure}
use Rattle.cny_laws.specs.declared.failure.Failure.TheVariants as failure
use Rattle.cny_laws.specs.declared.opened.Opened.{Opened}
use Rattle.cli_call.specs.Alone.{PerformsAlone}
use Rattle.cli_call.proofs.AloneLaws.{AnswersAlone, alone_reading}
use Rattle.cli_call.specs.Command.{disks, AreReady, HasFailureCause, Performs}
use Rattle.cli_call.proofs.CommandLaws.{AnswersReading, AreRead, performs_reading}
use Rattle.cli_call.proofs.RootLaws.{root_laws}
use Rattle.cny_laws.specs.State.{Meaning}
use Rattle.cny_laws.specs.Store.{IsStore, NamesDamaged}
use Rattle.cli_call.proofs.StoreLaws.{nothing_done}
use Rattle.cny_laws.specs.Stores.{root_store, repository_store}

module _ {T P : Type 0} {root_disk : DiskModel T} (repo_disk : DiskModel P) (root_disk_laws : IsDisk root_disk) (root root' : T) (repo : P) (opened : Opened) (m : Meaning) (input : List ℕ)
    (read : IsTrue root_disk.tells → HasRead root_disk root root' (Unit {0})) (result : Result (List ℕ) Failure) (answers : AnswersAlone root_disk m input root result) where
  -- on both disks
  on_both : (r : Result (List ℕ) Failure) → AnswersAlone root_disk m input root r → AnswersReading root_disk repo_disk m input (disks root repo opened) r
  on_both (Ok text) h = λ told repo_told s stands. h told s stands.root
  on_both (Err (failure.Refused why)) h = λ told repo_told s stands. h told s stands.root
  on_both (Err failure.RootFault) h = tt
  on_both (Err failure.Memory) h = tt
  on_both (Err (failure.Damaged path)) h = λ told repo_told s stands. h told s stands.root
  on_both _ h = absurd h

  pub read_alone : NamesDamaged root_store root_disk root' result → PerformsAlone root_disk repo_disk m input (disks root repo opened) (disks root' repo opened) result
  read_alone damaged = alone_reading repo_disk root_disk_laws root_laws m input (disks root repo opened) (disks root' repo opened) result refl read answers damaged

  module _ (repo_disk_laws : IsDisk repo_disk) (store_laws : IsStore repository_store) (ready : AreReady root_disk repo_disk (disks root repo opened)) (later : root_disk.faults root ≤ root_disk.faults root') where
    are_read : AreRead root_disk repo_disk (disks root repo opened) (disks root' repo opened)
    are_read = record { root_later = later; repo_later = omega arith; root = read; repo = λ told. nothing_done repo_disk_laws repo }

    pub read_performed : HasFailureCause root_disk repo_disk (disks root repo opened) (disks root' repo opened) result → Performs root_disk repo_disk m input (disks root repo opened) (disks root' repo opened) result
    read_performed cause = performs_reading root_disk_laws repo_disk_laws root_laws store_laws m input (disks root repo opened) (disks root' repo opened) ready are_read result cause (on_both result answers)
