-- How the reading of an input to its end went.
use Rattle.std.specs.Prelude.{◌≡◌, ℕ, List, Option, Some, IfSome, Result, Ok, Err}
use Rattle.cny_laws.specs.declared.failure.Failure.{Failure}
use Rattle.cny_laws.specs.declared.failure.Failure.TheVariants as failure
use Rattle.cny_laws.specs.Input.{within_limit, left_after_reading}

-- how reading the input ended, from the bytes that were left to those that are
abbrev pub ReadsInput : Option (List ℕ) → Option (List ℕ) → Result (List ℕ) Failure → Type 0
ReadsInput left rest (Ok bytes) = IfSome left (λ input. (within_limit input ≡ Ok bytes) × (rest ≡ Some (left_after_reading input)))
ReadsInput left rest (Err (failure.Refused r)) = IfSome left (λ input. (within_limit input ≡ Err r) × (rest ≡ Some (left_after_reading input)))
ReadsInput left rest (Err failure.InputFault) = Unit
ReadsInput left rest (Err failure.Memory) = Unit
ReadsInput left rest (Err _) = ⊥
