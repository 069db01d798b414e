-- A call of several lines by its steps: the disks are opened, the lines are made, and they are run.
use Rattle.std.specs.Prelude.{◌⊎◌, ℕ, Bool, true, List, Result, Ok, Err}
use Rattle.cny_version.specs.cny-base.Flow.{SourceState}
use Rattle.root_commands.specs.cli-call.tree-disk.Disk.{DiskModel}
use Rattle.cny_batch.specs.declared.line.Line.{Line}
use Rattle.root_commands.specs.cli-call.Command.{disks}
use Rattle.root_commands.specs.cli-call.Runs.{after_opening, RunsCall}
use Rattle.root_commands.specs.cli-call.cny-laws.declared.failure.Failure.{Failure}
use Rattle.root_commands.specs.cli-call.cny-laws.declared.failure.Failure.TheVariants as failure
use Rattle.root_commands.specs.cli-call.cny-laws.declared.opened.Opened.{Opened}
use Rattle.root_commands.specs.cli-call.cny-laws.Call.{AreOpened, CallState}
use Rattle.root_commands.specs.cli-call.cny-laws.Reading.{ReadsGiven}
use Rattle.root_commands.specs.cli-call.cny-laws.Report.{End}
use Rattle.conary_cli.specs.Lines.{CallLine, all_shown, RunsLines}
use Rattle.conary_cli.specs.Several.{AreBatchLines, Making, before_lines, of_input}

-- why bytes that were read make no lines: their refusal, or want of memory
abbrev pub MakesNone : Making → List ℕ → Failure → Type 0
MakesNone AreLines bytes (failure.Refused r) = AreLines bytes (Err r)
MakesNone AreLines bytes failure.Memory = Unit {0}
MakesNone AreLines bytes _ = ⊥

-- the input wasn't read, or makes no lines
abbrev pub ReadsNone : Bool → Making → SourceState → SourceState → Failure → Type 0
ReadsNone takes AreLines input input' e = ReadsGiven takes input input' (Err e) ⊎ ((bytes : List ℕ) × ReadsGiven takes input input' (Ok bytes) × MakesNone AreLines bytes e)

-- it was read, and makes these lines
pub record ReadsSome (takes : Bool) (AreLines : Making) (input input' : SourceState) (lines : List CallLine) : Type 0 where
  pub bytes : List ℕ
  pub reads : ReadsGiven takes input input' (Ok bytes)
  pub are : AreLines bytes (Ok lines)

-- how a batch is read
abbrev pub ReadsBatch : SourceState → SourceState → Result (List Line) Failure → Type 0
ReadsBatch input input' (Ok lines) = ReadsSome true AreBatchLines input input' (all_shown lines)
ReadsBatch input input' (Err e) = ReadsNone true AreBatchLines input input' e

module _ {T P : Type 0} (root_disk : DiskModel T) (repo_disk : DiskModel P) where
  -- they were run
  pub record GoesOnLines (takes : Bool) (AreLines : Making) (before now : CallState T P) (end : End) : Type 0 where
    pub root : T
    pub repo : P
    pub opened : Opened
    pub last : Opened
    pub opens : AreOpened root_disk repo_disk before.root root before.repo repo opened
    pub lines : List CallLine
    pub reads : ReadsSome takes AreLines before.input now.input lines
    pub runs : RunsLines root_disk repo_disk lines (after_opening root_disk repo_disk before root repo opened) (record { at = disks now.root now.repo last; out = now.out }) end

  -- no line was run, as by a command; or they were
  abbrev pub RunsSeveral : Bool → Making → CallState T P → CallState T P → End → Type 0
  RunsSeveral takes AreLines before now end = RunsCall root_disk repo_disk of_input (before_lines takes AreLines) before now end ⊎ GoesOnLines takes AreLines before now end
