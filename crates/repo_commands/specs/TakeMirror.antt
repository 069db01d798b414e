-- What `mirror take` means.
use Rattle.std.specs.Prelude.{◌≡◌, ◌⊎◌, ℕ, true, List, Result, Err}
use Rattle.cli_call.specs.cny-base.declared.refusal.Refusal.{Refusal}
use Rattle.cli_call.specs.cny-base.declared.refusal.Refusal.TheVariants.{Malformed}
use Rattle.cli_call.specs.change-set.declared.change.ChangeSet.{ChangeSet}
use Rattle.cli_call.specs.cny-laws.State.{Effect, Meaning}
use Rattle.cli_call.specs.SetInput.{HasSetOutcome}
use Rattle.repo_mirror.specs.Replies.{IsReplyFault, IsSetReply}
use Rattle.repo_commands.specs.Commit.{Commits}

-- The bytes are no stream with one reply that has a change set of whole troves alone, and refused with the place of their first fault.
pub record HasReplyFault (bytes : List ℕ) (outcome : Result Effect Refusal) : Type 0 where
  pub place : ℕ
  pub first : IsReplyFault bytes place
  pub is : outcome ≡ Err (Malformed place)

-- the outcome of a command that takes such a reply, which the change set decides
abbrev pub OfReply : List ℕ → (ChangeSet → Result Effect Refusal → Type 0) → Result Effect Refusal → Type 0
OfReply bytes IsOutcome outcome = HasSetOutcome (λ set. IsSetReply set bytes) IsOutcome outcome ⊎ HasReplyFault bytes outcome

-- the commit of the change set that the reply has
abbrev pub take_mirror : Meaning
take_mirror = record { takes_input = true; IsOutcome = λ s input. OfReply input (λ set. Commits set s.repository) }
