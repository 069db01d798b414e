-- What `rollback` means.
use Rattle.std.specs.Prelude.{◌≡◌, ℕ, false, List, length, Option, Some, None, Result, Ok, Err}
use Rattle.cli_call.specs.cny-base.declared.refusal.Refusal.{Refusal}
use Rattle.local_db.specs.SystemState.{newest}
use Rattle.cli_call.specs.system-core.Several.{CanTakeBackTo, IsRefusalTo, jobs_to, rolled_back_to}
use Rattle.cny_report.specs.Jobs.{rolled_back_text}
use Rattle.cli_call.specs.cny-laws.State.{on_root, Effect, Meaning, RootState}

-- The root has this system then, and these bytes are answered.
pub record IsBack (Can : Type 0) (t : RootState) (text : List ℕ) (e : Effect) : Type 0 where
  pub can : Can
  pub change : e.change ≡ on_root t
  pub out : e.out ≡ text

-- all jobs from the newest down to the one of a number are taken back, one after the other, or one of them can't be
abbrev pub TakesBackTo : ℕ → RootState → Result Effect Refusal → Type 0
TakesBackTo number s (Ok e) = IsBack (CanTakeBackTo s number) (rolled_back_to number s) (rolled_back_text (newest s.stack) (length (jobs_to number s.stack))) e
TakesBackTo number s (Err refused) = IsRefusalTo s number refused

-- the number that is meant: without one it is that of the newest job
abbrev pub meant_number : Option ℕ → RootState → ℕ
meant_number None s = newest s.stack
meant_number (Some number) s = number

abbrev pub take_back : Option ℕ → RootState → Result Effect Refusal → Type 0
take_back number s = TakesBackTo (meant_number number s) s

abbrev pub roll_back : Option ℕ → Meaning
roll_back number = record { takes_input = false; IsOutcome = λ s input. take_back number s.root }
