-- The table of commands: what each means.
use Rattle.std.specs.Prelude.{◌≡◌, ◌⊎◌, ℕ, Bool, true, false, not, IsTrue, List, Result, Ok, Err}
use Rattle.root_commands.specs.cli-call.cny-base.declared.options.Options.{Options}
use Rattle.cny_version.specs.cny-base.Flow.{SinkState}
use Rattle.root_commands.specs.cli-call.tree-disk.Disk.{DiskModel}
use Rattle.root_commands.specs.cli-call.cny-laws.declared.failure.Failure.{Failure}
use Rattle.root_commands.specs.cli-call.cny-laws.declared.failure.Failure.TheVariants as failure
use Rattle.root_commands.specs.cli-call.cny-laws.Call.{CallState}
use Rattle.root_commands.specs.cli-call.Runs.{RunsCall}
use Rattle.root_commands.specs.cli-call.cny-laws.Report.{End}
use Rattle.root_commands.specs.cli-call.Alone.{PerformsWithin}
use Rattle.root_commands.specs.cli-call.Command.{Disks}
use Rattle.root_commands.specs.cli-call.cny-laws.State.{Meaning, Scope}
use Rattle.root_commands.specs.cli-call.cny-laws.WholeCall.{IsCall, IsNoCall}
use Rattle.repo_commands.specs.Commit.{commit}
use Rattle.repo_commands.specs.Cook.{cook}
use Rattle.repo_commands.specs.Listing.{list_committed}
use Rattle.repo_commands.specs.Sending.{changeset}
use Rattle.root_commands.specs.Erase.{erase}
use Rattle.root_commands.specs.Install.{install}
use Rattle.root_commands.specs.Update.{update_input}
use Rattle.root_commands.specs.UpdateSpecs.{update_specs}
use Rattle.root_commands.specs.Jobs.{list_jobs}
use Rattle.root_commands.specs.Listing.{list_installed}
use Rattle.root_commands.specs.LocalChanges.{change_locally}
use Rattle.root_commands.specs.RollingBack.{roll_back}
use Rattle.root_commands.specs.Syncing.{sync}
use Rattle.root_commands.specs.Verifying.{verify_fully, verify_installed}
use Rattle.repo_commands.specs.Moving.{move}
use Rattle.cli_words.specs.declared.words.Command.{Command}
use Rattle.cli_words.specs.declared.words.Command.TheVariants as command
use Rattle.cli_words.specs.Words.{AreWords}
use Rattle.conary_cli.specs.Records.{EndsOpened, EndsWhole}
use Rattle.conary_cli.specs.Restores.{RollbackRestores}
use Rattle.repo_commands.specs.ShowChangeSet.{show_change_set}
use Rattle.repo_commands.specs.Serving.{serve}
use Rattle.repo_commands.specs.AskMirror.{ask_mirror}
use Rattle.repo_commands.specs.TakeMirror.{take_mirror}

-- what takes troves away keeps no file
abbrev pub erasing : Bool → Options
erasing replace = record { replace = replace; keep = false }

-- with the repository's contents, where it is full
abbrev pub verify : Bool → List (List ℕ) → Meaning
verify true names = verify_fully names
verify false names = verify_installed names

abbrev pub meaning : Command → Meaning
meaning (command.Install options) = install options
meaning command.ShowChangeSet = show_change_set
meaning (command.Cook next) = cook next
meaning command.Commit = commit
meaning (command.ListCommitted name) = list_committed name
meaning (command.Update specs options resolve) = update_specs options resolve specs
meaning (command.UpdateByInput options) = update_input options
meaning (command.Sync options) = sync options
meaning (command.Erase names replace) = erase names (erasing replace)
meaning (command.Rollback number) = roll_back number
meaning (command.ListInstalled name) = list_installed name
meaning (command.Verify full names) = verify full names
meaning command.ListJobs = list_jobs
meaning (command.LocalChanges name) = change_locally name
meaning (command.SendChanges from to) = changeset from to
meaning command.Serve = serve
meaning command.AskMirror = ask_mirror
meaning command.TakeMirror = take_mirror
meaning (command.Move way label given) = move way label given

-- the commands that work on the root alone; `verify` does so unless it is full
abbrev pub is_of_root : Command → Bool
is_of_root (command.Install options) = true
is_of_root command.ShowChangeSet = true
is_of_root (command.Erase names replace) = true
is_of_root (command.Rollback number) = true
is_of_root (command.ListInstalled name) = true
is_of_root (command.Verify full names) = not full
is_of_root command.ListJobs = true
is_of_root (command.LocalChanges name) = true
is_of_root _ = false

-- the commands that work on the repository alone
abbrev pub is_of_repository : Command → Bool
is_of_repository (command.Cook next) = true
is_of_repository command.Commit = true
is_of_repository (command.ListCommitted name) = true
is_of_repository command.Serve = true
is_of_repository command.AskMirror = true
is_of_repository command.TakeMirror = true
is_of_repository _ = false

-- the commands that work on the lists alone which are read when the disks are opened
abbrev pub is_of_lists : Command → Bool
is_of_lists command.ShowChangeSet = true
is_of_lists (command.ListCommitted name) = true
is_of_lists command.AskMirror = true
is_of_lists (command.ListInstalled name) = true
is_of_lists _ = false

-- the commands that work on the root's tree and its installed list alone
abbrev pub is_of_tree : Command → Bool
is_of_tree (command.Verify full names) = not full
is_of_tree (command.LocalChanges name) = true
is_of_tree _ = false

-- the commands that work on the root's tree and on the database and the catalogue that are read when the disks are opened
abbrev pub is_of_opened : Command → Bool
is_of_opened (command.Install options) = true
is_of_opened (command.Erase names replace) = true
is_of_opened (command.Move way label given) = true
is_of_opened _ = false

-- the commands that work on the same, and on contents of the repository
abbrev pub is_of_contents : Command → Bool
is_of_contents (command.Cook next) = true
is_of_contents command.Commit = true
is_of_contents command.TakeMirror = true
is_of_contents (command.Update specs options resolve) = true
is_of_contents (command.UpdateByInput options) = true
is_of_contents (command.Sync options) = true
is_of_contents (command.Verify full names) = full
is_of_contents (command.SendChanges from to) = true
is_of_contents _ = false

-- the command that reads the records of the root's jobs, and answers what they tell
abbrev pub is_of_records : Command → Bool
is_of_records command.ListJobs = true
is_of_records _ = false

-- the commands that only read the root: all but the jobs and `rollback`
abbrev pub reads_root : Command → Bool
reads_root (command.Install options) = false
reads_root (command.Update specs options resolve) = false
reads_root (command.UpdateByInput options) = false
reads_root (command.Sync options) = false
reads_root (command.Erase names replace) = false
reads_root (command.Rollback number) = false
reads_root _ = true

-- the commands that only read the repository: all but those that commit
abbrev pub reads_repository : Command → Bool
reads_repository (command.Cook next) = false
reads_repository command.Commit = false
reads_repository command.TakeMirror = false
reads_repository (command.Move way label given) = false
reads_repository _ = true

abbrev pub scope_of : Command → Scope
scope_of c = record {
  of_root = is_of_root c;
  of_repository = is_of_repository c;
  of_tree = is_of_tree c;
  of_opened = is_of_opened c;
  of_contents = is_of_contents c;
  of_records = is_of_records c;
  of_lists = is_of_lists c;
  reads_root = reads_root c;
  reads_repository = reads_repository c;
}

module _ {T P : Type 0} (root_disk : DiskModel T) (repo_disk : DiskModel P) where
  -- ---- over two disks that are open

  -- THE CLAUSE of `perform`: the command was performed with this input, as it means, also where it is told of no more than what it works
  -- on, and what it only reads was only read; and no damaged record was passed over.
  pub record PerformsCommand (c : Command) (input : List ℕ) (old new : Disks T P) (result : Result (List ℕ) Failure) : Type 0 where
    pub performs : PerformsWithin root_disk repo_disk (scope_of c) (meaning c) input old new result
    pub records : IsTrue root_disk.tells → EndsWhole c (root_disk.reads old.root) old.opened.db result

  -- ---- a whole call

  -- The words are a command, and it was called; or they are none, and nothing was done.
  abbrev pub RunsWords : Result Command Failure → CallState T P → CallState T P → End → Type 0
  RunsWords (Ok c) before now end = RunsCall root_disk repo_disk (scope_of c) (meaning c) before now end × EndsOpened root_disk repo_disk c before now end
  RunsWords (Err e) before now end = (now ≡ before) × ((end ≡ Err e) ⊎ (end ≡ Err failure.Memory))

  -- a call of a command, and what it says of records: none that it read is damaged where it is done or refused, and what `rollback`
  -- restores
  pub record IsCommandCall (c : Command) (before now : CallState T P) (err err' : SinkState) (status : ℕ) : Type 0 where
    pub call : IsCall root_disk repo_disk (scope_of c) (meaning c) before now err err' status
    pub records : EndsOpened root_disk repo_disk c before now call.end
    pub restores : RollbackRestores root_disk repo_disk c before now call.end

  -- what a whole call promises: as its command means, or nothing was done
  abbrev pub IsWholeCall : Result Command Failure → CallState T P → CallState T P → SinkState → SinkState → ℕ → Type 0
  IsWholeCall (Ok c) before now err err' status = IsCommandCall c before now err err' status
  IsWholeCall (Err e) before now err err' status = IsNoCall e before now err err' status

  -- The words are something, and the call was one of it; or memory ran out before they were read, and nothing was done.
  abbrev pub RunsSome : List (List ℕ) → CallState T P → CallState T P → End → Type 0
  RunsSome words before now end = ((expected : Result Command Failure) × AreWords words expected × RunsWords expected before now end) ⊎ ((now ≡ before) × (end ≡ Err failure.Memory))

  abbrev pub IsSomeCall : List (List ℕ) → CallState T P → CallState T P → SinkState → SinkState → ℕ → Type 0
  IsSomeCall words before now err err' status = ((expected : Result Command Failure) × AreWords words expected × IsWholeCall expected before now err err' status) ⊎ IsNoCall failure.Memory before now err err' status
