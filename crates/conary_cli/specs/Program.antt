-- What a call of the program promises, by what its words call; and a line by itself.
use Rattle.std.specs.Prelude.{◌≡◌, ◌⊎◌, ℕ, true, false, List, Some, Result, Ok, Err}
use Rattle.cny_version.specs.cny-base.Flow.{SourceState, SinkState}
use Rattle.root_commands.specs.cli-call.tree-disk.Disk.{DiskModel}
use Rattle.cny_batch.specs.declared.line.Line.{Line}
use Rattle.root_commands.specs.cli-call.Runs.{RunsCall}
use Rattle.root_commands.specs.cli-call.cny-laws.declared.failure.Failure.{Failure}
use Rattle.root_commands.specs.cli-call.cny-laws.declared.failure.Failure.TheVariants as failure
use Rattle.root_commands.specs.cli-call.cny-laws.Call.{CallState}
use Rattle.root_commands.specs.cli-call.cny-laws.Report.{End}
use Rattle.root_commands.specs.cli-call.cny-laws.WholeCall.{IsNoCall}
use Rattle.cli_words.specs.declared.call_words.Call.{Call}
use Rattle.cli_words.specs.declared.call_words.Call.TheVariants as call
use Rattle.cli_words.specs.declared.words.Command.{Command}
use Rattle.cli_words.specs.Calls.{AreCall}
use Rattle.conary_cli.specs.Commands.{meaning, scope_of, IsCommandCall, IsSomeCall, IsWholeCall, RunsSome, RunsWords}
use Rattle.conary_cli.specs.Records.{EndsOpened}
use Rattle.conary_cli.specs.RunsSeveral.{RunsSeveral}
use Rattle.conary_cli.specs.Several.{AreBatchLines, AreDemoLines, IsLinesCall}
use Rattle.cli_words.specs.Words.{AreWords}

-- ---- a line by itself

-- a source that tells exactly these bytes, and hasn't failed
abbrev pub told_source : List ℕ → SourceState
told_source bytes = record { left = Some bytes; faults = 0 }

abbrev pub line_state : {T P : Type 0} → SourceState → T → P → SinkState → CallState T P
line_state input root repo out = record { input = input; root = root; repo = repo; out = out }

module _ {T P : Type 0} (root_disk : DiskModel T) (repo_disk : DiskModel P) where
  -- THE CLAUSE of a line by itself: it is the call of one command whose input is told, is just that of the line, and doesn't fail.
  abbrev pub IsLineCall : Line → T → P → SinkState → T → P → SinkState → SinkState → SinkState → ℕ → Type 0
  IsLineCall line root repo out root' repo' out' err err' status =
      (rest : List ℕ) × IsSomeCall root_disk repo_disk line.words (line_state (told_source line.input) root repo out) (line_state (told_source rest) root' repo' out') err err' status

  -- the same, of what its words are
  abbrev pub IsLineCallOf : Result Command Failure → Line → T → P → SinkState → T → P → SinkState → SinkState → SinkState → ℕ → Type 0
  IsLineCallOf expected line root repo out root' repo' out' err err' status =
      (rest : List ℕ) × IsWholeCall root_disk repo_disk expected (line_state (told_source line.input) root repo out) (line_state (told_source rest) root' repo' out') err err' status

  -- by its steps, as something and as whatever the words are
  abbrev pub RunsAlone : List (List ℕ) → CallState T P → CallState T P → End → Type 0
  RunsAlone words before now end = RunsSome root_disk repo_disk words before now end × ((expected : Result Command Failure) → AreWords words expected → RunsWords root_disk repo_disk expected before now end)

  -- ---- the program, by its steps

  -- One command was called, or several lines; or the words call nothing, and nothing was done.
  abbrev pub RunsProgram : Result Call Failure → CallState T P → CallState T P → End → Type 0
  RunsProgram (Ok (call.Single c)) before now end = RunsCall root_disk repo_disk (scope_of c) (meaning c) before now end × EndsOpened root_disk repo_disk c before now end
  RunsProgram (Ok call.Batch) before now end = RunsSeveral root_disk repo_disk true AreBatchLines before now end
  RunsProgram (Ok (call.Demo packages)) before now end = RunsSeveral root_disk repo_disk false (AreDemoLines packages) before now end
  RunsProgram (Err e) before now end = (now ≡ before) × ((end ≡ Err e) ⊎ (end ≡ Err failure.Memory))

  abbrev pub RunsSomething : List (List ℕ) → CallState T P → CallState T P → End → Type 0
  RunsSomething words before now end = ((expected : Result Call Failure) × AreCall words expected × RunsProgram expected before now end) ⊎ ((now ≡ before) × (end ≡ Err failure.Memory))

  -- ---- the whole

  -- THE CLAUSE of `run`, by what the words call.
  abbrev pub IsProgramCall : Result Call Failure → CallState T P → CallState T P → SinkState → SinkState → ℕ → Type 0
  IsProgramCall (Ok (call.Single c)) before now err err' status = IsCommandCall root_disk repo_disk c before now err err' status
  IsProgramCall (Ok call.Batch) before now err err' status = IsLinesCall root_disk repo_disk true AreBatchLines before now err err' status
  IsProgramCall (Ok (call.Demo packages)) before now err err' status = IsLinesCall root_disk repo_disk false (AreDemoLines packages) before now err err' status
  IsProgramCall (Err e) before now err err' status = IsNoCall e before now err err' status

  -- The words call something, and this was it; or memory ran out before they were read, and nothing was done.
  abbrev pub IsSomething : List (List ℕ) → CallState T P → CallState T P → SinkState → SinkState → ℕ → Type 0
  IsSomething words before now err err' status = ((expected : Result Call Failure) × AreCall words expected × IsProgramCall expected before now err err' status) ⊎ IsNoCall failure.Memory before now err err' status
