-- What `mirror ask` means.
use Rattle.std.specs.Prelude.{◌≡◌, ℕ, false, List, Result, Ok, Err}
use Rattle.cli_call.specs.cny-base.declared.refusal.Refusal.{Refusal}
use Rattle.cli_call.specs.trove-stream.declared.parts.TroveParts.{TroveParts}
use Rattle.cli_call.specs.Answer.{answer}
use Rattle.cli_call.specs.cny-laws.State.{Effect, Meaning}
use Rattle.repo_load.specs.State.{troves_of}
use Rattle.repo_mirror.specs.Asking.{IsAsked}

-- the stream that asks for all troves but these is answered; or it is too long for a message
abbrev pub AnswersAsked : List TroveParts → Result Effect Refusal → Type 0
AnswersAsked troves (Ok effect) = (bytes : List ℕ) × IsAsked troves (Ok bytes) × (effect ≡ answer bytes)
AnswersAsked troves (Err refusal) = IsAsked troves (Err refusal)

abbrev pub ask_mirror : Meaning
ask_mirror = record { takes_input = false; IsOutcome = λ s input. AnswersAsked (troves_of s.repository.commits) }
