-- The input of a command, and its limit.
use Rattle.std.specs.Prelude.{◌≡◌, ℕ, ◌+◌, List, length, drop, Result, Ok, Err, nat_lt, if◌then◌else◌}
use Rattle.system_core.specs.cny-base.declared.limits.TheConstants.{INPUT_LIMIT}
use Rattle.system_core.specs.cny-base.declared.refusal.Refusal.{Refusal}
use Rattle.system_core.specs.cny-base.declared.refusal.Refusal.TheVariants.{TooLarge}
use Rattle.system_core.specs.cny-base.declared.refusal.What.TheVariants.{Input}
use Rattle.cny_laws.specs.declared.failure.Failure.{Failure}
use Rattle.cny_laws.specs.declared.failure.Failure.TheVariants as failure

-- the greatest number of bytes of an input
abbrev pub input_limit : ℕ
input_limit = INPUT_LIMIT

-- the input, where it is within its limit
abbrev pub within_limit : List ℕ → Result (List ℕ) Refusal
within_limit input = if nat_lt input_limit (length input) then Err (TooLarge Input (input_limit + 1)) else Ok input

-- what is left after the input was read: reading stops one byte past the limit
abbrev pub left_after_reading : List ℕ → List ℕ
left_after_reading input = drop (input_limit + 1) input

-- What was read is within the limit; or there are bytes that the limit refuses so.
abbrev pub IsOfSome : Result (List ℕ) Failure → Type 0
IsOfSome (Ok bytes) = within_limit bytes ≡ Ok bytes
IsOfSome (Err (failure.Refused r)) = (input : List ℕ) × (within_limit input ≡ Err r)
IsOfSome (Err failure.InputFault) = Unit {0}
IsOfSome (Err failure.Memory) = Unit {0}
IsOfSome (Err _) = ⊥
