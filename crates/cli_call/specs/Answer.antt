-- Commands that answer bytes and change nothing.
use Rattle.std.specs.Prelude.{◌≡◌, ℕ, List, Result, Ok, Err}
use Rattle.cny_laws.specs.system-core.cny-base.declared.refusal.Fault.{Fault}
use Rattle.cny_laws.specs.system-core.cny-base.declared.refusal.Fault.TheVariants as fault
use Rattle.cny_laws.specs.system-core.cny-base.declared.refusal.Refusal.{Refusal}
use Rattle.cny_laws.specs.State.{nothing, Effect}

-- nothing changes, and these bytes are answered
abbrev pub answer : List ℕ → Effect
answer text = record { change = nothing; out = text }

-- such an outcome was answered, or memory ran out
abbrev pub AnswersSo : Result Effect Refusal → Result (List ℕ) Fault → Type 0
AnswersSo outcome (Ok text) = outcome ≡ Ok (answer text)
AnswersSo outcome (Err (fault.Refused r)) = outcome ≡ Err r
AnswersSo outcome (Err fault.Memory) = Unit {0}
