-- The status and the line of a call, by how it ended.
use Rattle.std.specs.Prelude.{◌≡◌, ◌⊎◌, ℕ, List, [], ◌++◌, ◌∷◌, Result, Ok, Err, codes}
use Rattle.std.specs.Io.KnownBytes.{Appends, Keeps}
use Rattle.system_core.specs.cny-base.Count.{Rose}
use Rattle.repo_load.specs.cny-base.Flow.{SinkState}
use Rattle.cny_report.specs.Refusals.{refusal_text}
use Rattle.cny_laws.specs.declared.failure.Failure.{Failure}
use Rattle.cny_laws.specs.declared.failure.Failure.TheVariants as failure

abbrev pub End : Type 0
End = Result (Unit {0}) Failure

abbrev pub status_of : End → ℕ
status_of (Ok _) = 0
status_of (Err (failure.Refused r)) = 1
status_of (Err failure.Usage) = 2
status_of (Err failure.InputFault) = 3
status_of (Err failure.OutputFault) = 4
status_of (Err failure.RootFault) = 5
status_of (Err failure.RepositoryFault) = 6
status_of (Err failure.Memory) = 7
status_of (Err (failure.Damaged path)) = 8

abbrev pub failure_text : Failure → List ℕ
failure_text failure.Usage = codes "usage: conary [--disk ROOT REPO] COMMAND [WORD...]"
failure_text (failure.Refused r) = codes "conary: " ++ refusal_text r
failure_text failure.InputFault = codes "conary: input fault"
failure_text failure.OutputFault = codes "conary: output fault"
failure_text failure.RootFault = codes "conary: root fault"
failure_text failure.RepositoryFault = codes "conary: repository fault"
failure_text failure.Memory = codes "conary: out of memory"
failure_text (failure.Damaged path) = codes "conary: damaged " ++ path

-- the line of an end on the standard error: none after Ok
abbrev pub error_line : End → List ℕ
error_line (Ok _) = []
error_line (Err e) = failure_text e ++ 10 ∷ []

-- a failure whose line may not be missing, also for want of memory
abbrev pub MustBeTold : Failure → Type 0
MustBeTold failure.Usage = Unit
MustBeTold (failure.Refused r) = Unit
MustBeTold _ = ⊥

-- the ends before which nothing was changed
abbrev pub ChangesNothing : End → Type 0
ChangesNothing (Err (failure.Refused r)) = Unit {0}
ChangesNothing (Err failure.InputFault) = Unit {0}
ChangesNothing (Err (failure.Damaged path)) = Unit {0}
ChangesNothing _ = ⊥

-- The failure's status is answered and, unless the standard error failed, its line was written. Where the line may be missing,
-- none may have been written, for want of memory.
pub record Tells (e : Failure) (before after : SinkState) (status : ℕ) : Type 0 where
  pub answered : status ≡ status_of (Err e)
  pub line : Rose before.faults after.faults ⊎ Appends before.written after.written (error_line (Err e)) ⊎ ((MustBeTold e → ⊥) × Keeps before.written after.written)

-- After Ok nothing is written. Want of memory for a line that may not be missing ends the call in want of memory.
abbrev pub Reports : End → SinkState → SinkState → ℕ → Type 0
Reports (Ok _) before after status = (status ≡ 0) × (after ≡ before)
Reports (Err e) before after status = Tells e before after status ⊎ (MustBeTold e × Tells failure.Memory before after status)
