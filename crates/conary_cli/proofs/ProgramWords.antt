-- Words that weren't read as a call.
use Rattle.std.proofs.Common.{◌≡◌, ℕ, List, Result, Ok, Err, refl, sym, ap, inl, inr, ⊎_elim, true, false}
use Rattle.root_commands.specs.cli-call.tree-disk.Disk.{DiskModel, IsDisk}
use Rattle.root_commands.specs.cli-call.cny-laws.declared.failure.Failure.{Failure}
use Rattle.root_commands.specs.cli-call.cny-laws.declared.failure.Failure.TheVariants as failure
use Rattle.root_commands.specs.cli-call.cny-laws.Call.{CallState}
use Rattle.root_commands.specs.cli-call.cny-laws.Report.{End}
use Rattle.root_commands.proofs.cli-call.CallLaws.{memory_call}
use Rattle.cli_words.specs.declared.call_words.Call.{Call}
use Rattle.cli_words.specs.declared.call_words.Call.TheVariants as call
use Rattle.cli_words.specs.Calls.{AreCall, IsCallOrMemory, ReadsCall}
use Rattle.conary_cli.specs.Commands.{meaning, scope_of}
use Rattle.conary_cli.specs.Program.{RunsProgram, RunsSomething}
use Rattle.conary_cli.specs.Several.{AreBatchLines, AreDemoLines, before_lines, of_input}
use Rattle.conary_cli.proofs.Calls.{or_memory}
use Rattle.conary_cli.proofs.RecordEnds.{memory_whole}

same_end : (f e : Failure) → ◌≡◌ {A = Result Call Failure} (Err f) (Err e) → ◌≡◌ {A = End} (Err e) (Err f)
same_end f e h = let same : f ≡ e = cc h in ap Err (sym same)

pub no_call : {T P : Type 0} {root_disk : DiskModel T} (repo_disk : DiskModel P) → IsDisk root_disk → (before : CallState T P) (expected : Result Call Failure) (e : Failure) → ReadsCall expected (Err e) → RunsProgram root_disk repo_disk expected before before (Err e)
no_call repo_disk root_laws before (Ok (call.Single c)) failure.Memory reads = (memory_call root_laws (scope_of c) (meaning c) before, memory_whole c before before)
no_call repo_disk root_laws before (Ok call.Batch) failure.Memory reads = inl (memory_call root_laws of_input (before_lines true AreBatchLines) before)
no_call repo_disk root_laws before (Ok (call.Demo packages)) failure.Memory reads = inl (memory_call root_laws of_input (before_lines false (AreDemoLines packages)) before)
no_call repo_disk root_laws before (Err f) failure.Memory reads = (refl, inr refl)
no_call repo_disk root_laws before (Ok c) failure.Usage reads = absurd (cc reads)
no_call repo_disk root_laws before (Err f) failure.Usage reads = (refl, inl (same_end f _ reads))
no_call repo_disk root_laws before (Ok c) (failure.Refused r) reads = absurd (cc reads)
no_call repo_disk root_laws before (Err f) (failure.Refused r) reads = (refl, inl (same_end f _ reads))
no_call repo_disk root_laws before expected _ reads = absurd reads

pub some_unread : {T P : Type 0} (root_disk : DiskModel T) (repo_disk : DiskModel P) (words : List (List ℕ)) (before : CallState T P) (e : Failure) → IsCallOrMemory (AreCall words) (Err e) → RunsSomething root_disk repo_disk words before before (Err e)
some_unread root_disk repo_disk words before e are = ⊎_elim (λ is. inl (Err e, is, (refl, inl refl))) (λ memory. inr (refl, ap Err memory)) (or_memory (AreCall words) e are)
