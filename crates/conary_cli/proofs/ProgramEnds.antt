-- A call of the program, from its steps.
use Rattle.std.proofs.Common.{◌≤◌, ℕ, true, false, List, Result, Ok, Err, inl, inr, ⊎_elim}
use Rattle.cny_version.specs.cny-base.Flow.{SinkState}
use Rattle.root_commands.specs.cli-call.tree-disk.Disk.{DiskModel, IsDisk}
use Rattle.root_commands.specs.cli-call.cny-laws.declared.failure.Failure.{Failure}
use Rattle.root_commands.specs.cli-call.cny-laws.declared.failure.Failure.TheVariants as failure
use Rattle.root_commands.specs.cli-call.cny-laws.Call.{CallState}
use Rattle.root_commands.specs.cli-call.cny-laws.Report.{End, Reports}
use Rattle.root_commands.specs.cli-call.cny-laws.Store.{IsStore}
use Rattle.root_commands.specs.cli-call.cny-laws.Stores.{repository_store}
use Rattle.cli_words.specs.declared.call_words.Call.{Call}
use Rattle.cli_words.specs.declared.call_words.Call.TheVariants as call
use Rattle.conary_cli.specs.Program.{IsProgramCall, IsSomething, RunsProgram}
use Rattle.conary_cli.specs.Several.{AreBatchLines, AreDemoLines}
use Rattle.conary_cli.proofs.Calls.{known_status, whole_status, whole_words}
use Rattle.conary_cli.proofs.SeveralEnds.{whole_lines}

pub whole_program : {T P : Type 0} {root_disk : DiskModel T} {repo_disk : DiskModel P} → IsDisk root_disk → IsDisk repo_disk → IsStore repository_store → (before now : CallState T P) (err err' : SinkState) (status : ℕ) (end : End) (expected : Result Call Failure)
    → RunsProgram root_disk repo_disk expected before now end → Reports end err err' status → IsProgramCall root_disk repo_disk expected before now err err' status
whole_program root_laws repo_laws store_laws before now err err' status end (Ok (call.Single c)) runs reports = whole_words root_laws repo_laws store_laws before now err err' status end (Ok c) runs reports
whole_program root_laws repo_laws store_laws before now err err' status end (Ok call.Batch) runs reports = whole_lines root_laws repo_laws store_laws true AreBatchLines before now end err err' status runs reports
whole_program root_laws repo_laws store_laws before now err err' status end (Ok (call.Demo packages)) runs reports = whole_lines root_laws repo_laws store_laws false (AreDemoLines packages) before now end err err' status runs reports
whole_program root_laws repo_laws store_laws before now err err' status end (Err e) runs reports = whole_words root_laws repo_laws store_laws before now err err' status end (Err e) runs reports

-- ---- statuses

program_status : {T P : Type 0} (root_disk : DiskModel T) (repo_disk : DiskModel P) (expected : Result Call Failure) (before now : CallState T P) (err err' : SinkState) (status : ℕ) → IsProgramCall root_disk repo_disk expected before now err err' status → status ≤ 8
program_status root_disk repo_disk (Ok (call.Single c)) before now err err' status is = whole_status root_disk repo_disk (Ok c) before now err err' status is
program_status root_disk repo_disk (Ok call.Batch) before now err err' status is = ⊎_elim (λ none. known_status none.end err err' status none.reports) (λ run. known_status run.end err err' status run.reports) is
program_status root_disk repo_disk (Ok (call.Demo packages)) before now err err' status is = ⊎_elim (λ none. known_status none.end err err' status none.reports) (λ run. known_status run.end err err' status run.reports) is
program_status root_disk repo_disk (Err e) before now err err' status is = whole_status root_disk repo_disk (Err e) before now err err' status is

-- no status is above 8
pub something_status : {T P : Type 0} (root_disk : DiskModel T) (repo_disk : DiskModel P) (words : List (List ℕ)) (before now : CallState T P) (err err' : SinkState) (status : ℕ) → IsSomething root_disk repo_disk words before now err err' status → status ≤ 8
something_status root_disk repo_disk words before now err err' status (inl some) = program_status root_disk repo_disk some.0 before now err err' status some.2
something_status root_disk repo_disk words before now err err' status (inr none) = whole_status root_disk repo_disk (Err failure.Memory) before now err err' status none
