-- What `serve` means.
use Rattle.std.specs.Prelude.{◌≡◌, ℕ, true, List, Result, Ok, Err}
use Rattle.cli_call.specs.cny-base.declared.refusal.Refusal.{Refusal}
use Rattle.cli_call.specs.Answer.{answer}
use Rattle.cli_call.specs.cny-laws.State.{Effect, Meaning}
use Rattle.repo_load.specs.State.{RepositoryState}
use Rattle.repo_serve.specs.Replies.{Replies}

-- the replies to a stream of requests are answered; or it is refused, as its first item is that has no reply
abbrev pub AnswersReplies : RepositoryState → List ℕ → Result Effect Refusal → Type 0
AnswersReplies r stream (Ok effect) = (bytes : List ℕ) × Replies r stream (Ok bytes) × (effect ≡ answer bytes)
AnswersReplies r stream (Err refusal) = Replies r stream (Err refusal)

abbrev pub serve : Meaning
serve = record { takes_input = true; IsOutcome = λ s input. AnswersReplies s.repository input }
