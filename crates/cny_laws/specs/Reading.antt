-- What a command is given of the input.
use Rattle.std.specs.Prelude.{◌≡◌, ℕ, ◌≤◌, Bool, true, false, List, [], Some, IfSome, Result, Ok, Err}
use Rattle.system_core.specs.cny-base.Count.{Rose}
use Rattle.system_core.specs.cny-base.declared.refusal.Refusal.{Refusal}
use Rattle.repo_load.specs.cny-base.Flow.{SourceState}
use Rattle.cny_laws.specs.declared.failure.Failure.{Failure}
use Rattle.cny_laws.specs.declared.failure.Failure.TheVariants as failure
use Rattle.cny_laws.specs.Input.{within_limit, left_after_reading, IsOfSome}

-- a command that takes an input is given all of it, within its limit, and any other command nothing
abbrev pub given : Bool → List ℕ → Result (List ℕ) Refusal
given true input = within_limit input
given false input = Ok []

-- what reading leaves of the input
abbrev pub left_by : Bool → List ℕ → List ℕ
left_by true input = left_after_reading input
left_by false input = input

-- Where a command takes the input and it is told, this is all of it.
abbrev pub IsInput : Bool → SourceState → List ℕ → Type 0
IsInput takes source input = takes ≡ true → IfSome source.left (λ all. all ≡ input)

-- of this input reading gives this
abbrev pub Gives : Bool → List ℕ → Result (List ℕ) Failure → Type 0
Gives takes input (Ok bytes) = given takes input ≡ Ok bytes
Gives takes input (Err (failure.Refused r)) = given takes input ≡ Err r
Gives takes input (Err failure.InputFault) = Unit {0}
Gives takes input (Err failure.Memory) = Unit {0}
Gives takes input (Err _) = ⊥

-- how reading ended, from a told input
abbrev pub ReadFrom : Bool → List ℕ → SourceState → Result (List ℕ) Failure → Type 0
ReadFrom takes input now (Ok bytes) = (given takes input ≡ Ok bytes) × (now.left ≡ Some (left_by takes input))
ReadFrom takes input now (Err (failure.Refused r)) = (given takes input ≡ Err r) × (now.left ≡ Some (left_by takes input))
ReadFrom takes input now (Err failure.InputFault) = Unit {0}
ReadFrom takes input now (Err failure.Memory) = Unit {0}
ReadFrom takes input now (Err _) = ⊥

-- why reading ended so
abbrev pub ReadCause : SourceState → SourceState → Result (List ℕ) Failure → Type 0
ReadCause before now (Ok bytes) = Unit {0}
ReadCause before now (Err (failure.Refused r)) = Unit {0}
ReadCause before now (Err failure.InputFault) = Rose before.faults now.faults
ReadCause before now (Err failure.Memory) = Unit {0}
ReadCause before now (Err _) = ⊥

-- What a command is given was read, or why it wasn't. A command that takes no input is given nothing, and nothing is read. Of an input
-- that isn't told there are bytes of which reading gives the same.
pub record ReadsGiven (takes : Bool) (before now : SourceState) (result : Result (List ℕ) Failure) : Type 0 where
  pub later : before.faults ≤ now.faults
  pub cause : ReadCause before now result
  pub untaken : takes ≡ false → (now ≡ before) × ((bytes : List ℕ) → result ≡ Ok bytes → bytes ≡ []) × ((r : Refusal) → result ≡ Err (failure.Refused r) → ⊥)
  pub taken : takes ≡ true → IfSome before.left (λ input. ReadFrom takes input now result)
  pub some : takes ≡ true → IsOfSome result
