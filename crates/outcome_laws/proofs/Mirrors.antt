-- `serve`, `mirror ask` and `mirror take` have one outcome.
use Rattle.std.proofs.Common.{◌≡◌, inl, inr, ℕ, List, Result, Ok, Err, sym, ap, ◌∙◌, subst}
use Rattle.conary_cli.specs.cli-call.cny-base.declared.refusal.Refusal.{Refusal}
use Rattle.conary_cli.specs.cli-call.cny-base.declared.refusal.Refusal.TheVariants.{Malformed}
use Rattle.conary_cli.specs.cli-call.change-set.declared.change.ChangeSet.{ChangeSet}
use Rattle.conary_cli.specs.cli-call.trove-stream.declared.parts.TroveParts.{TroveParts}
use Rattle.conary_cli.specs.cli-call.Answer.{answer}
use Rattle.conary_cli.specs.cli-call.cny-laws.State.{Effect}
use Rattle.repo_load.specs.State.{troves_of, RepositoryState}
use Rattle.conary_cli.specs.repo-commands.repo-mirror.Replies.{IsReplyFault, IsSetReply}
use Rattle.conary_cli.specs.repo-commands.repo-mirror.Asking.{IsAsked}
use Rattle.conary_cli.specs.repo-commands.repo-serve.Replies.{Replies}
use Rattle.conary_cli.specs.repo-commands.AskMirror.{ask_mirror, AnswersAsked}
use Rattle.conary_cli.specs.repo-commands.Commit.{Commits}
use Rattle.conary_cli.specs.repo-commands.Serving.{serve, AnswersReplies}
use Rattle.conary_cli.specs.repo-commands.TakeMirror.{take_mirror, OfReply}
use Rattle.outcome_laws.specs.OneOutcome.{AtMostOne, HasOneOutcome}
use Rattle.outcome_laws.proofs.Commits.{commits_once, CommitLaws}
use Rattle.outcome_laws.proofs.Tests.{done, refused, with_shared}

-- the same bytes are answered
same_answer : (one other : List ℕ) (e g : Effect) → ◌≡◌ {A = Result (List ℕ) Refusal} (Ok one) (Ok other) → e ≡ answer one → g ≡ answer other → done e ≡ done g
same_answer one other e g same is is' = let bytes : one ≡ other = cc same in ap done (is ∙ ap answer bytes ∙ sym is')

same_refusal : (one other : Refusal) → ◌≡◌ {A = Result (List ℕ) Refusal} (Err one) (Err other) → refused one ≡ refused other
same_refusal one other same = let refusal : one ≡ other = cc same in ap refused refusal

-- ---- `serve`

pub serving_once : ((r : RepositoryState) (stream : List ℕ) (a b : Result (List ℕ) Refusal) → Replies r stream a → Replies r stream b → a ≡ b) → HasOneOutcome serve
serving_once one = with_shared serve (λ s input state. at s.repository input)
  where
    at : (r : RepositoryState) (stream : List ℕ) → AtMostOne (AnswersReplies r stream)
    at r stream (Ok e) (Ok g) h k = same_answer h.0 k.0 e g (one r stream (Ok h.0) (Ok k.0) h.1 k.1) h.2 k.2
    at r stream (Ok e) (Err q) h k = absurd (cc (one r stream (Ok h.0) (Err q) h.1 k))
    at r stream (Err p) (Ok g) h k = absurd (cc (one r stream (Err p) (Ok k.0) h k.1))
    at r stream (Err p) (Err q) h k = same_refusal p q (one r stream (Err p) (Err q) h k)

-- ---- `mirror ask`

pub asking_once : ((troves : List TroveParts) (a b : Result (List ℕ) Refusal) → IsAsked troves a → IsAsked troves b → a ≡ b) → HasOneOutcome ask_mirror
asking_once one = with_shared ask_mirror (λ s input state. at (troves_of s.repository.commits))
  where
    at : (troves : List TroveParts) → AtMostOne (AnswersAsked troves)
    at troves (Ok e) (Ok g) h k = same_answer h.0 k.0 e g (one troves (Ok h.0) (Ok k.0) h.1 k.1) h.2 k.2
    at troves (Ok e) (Err q) h k = absurd (cc (one troves (Ok h.0) (Err q) h.1 k))
    at troves (Err p) (Ok g) h k = absurd (cc (one troves (Err p) (Ok k.0) h k.1))
    at troves (Err p) (Err q) h k = same_refusal p q (one troves (Err p) (Err q) h k)

-- ---- `mirror take`

-- Bytes are the reply with one change set at most, or have one first fault, and not both.
pub record ReplyLaws : Type 0 where
  pub set : (set other : ChangeSet) (bytes : List ℕ) → IsSetReply set bytes → IsSetReply other bytes → set ≡ other
  pub excluded : (set : ChangeSet) (bytes : List ℕ) (place : ℕ) → IsSetReply set bytes → IsReplyFault bytes place → ⊥
  pub place : (bytes : List ℕ) (place other : ℕ) → IsReplyFault bytes place → IsReplyFault bytes other → place ≡ other

reply_once : ReplyLaws → (bytes : List ℕ) (Is : ChangeSet → Result Effect Refusal → Type 0) → ((set : ChangeSet) → AtMostOne (Is set)) → AtMostOne (OfReply bytes Is)
reply_once laws bytes Is one a b (inl h) (inl k) = one k.set a b (subst (λ (set : ChangeSet). Is set a) (laws.set h.set k.set bytes h.spelled k.spelled) h.is) k.is
reply_once laws bytes Is one a b (inl h) (inr k) = absurd (laws.excluded h.set bytes k.place h.spelled k.first)
reply_once laws bytes Is one a b (inr h) (inl k) = absurd (laws.excluded k.set bytes h.place k.spelled h.first)
reply_once laws bytes Is one a b (inr h) (inr k) = h.is ∙ ap (λ (place : ℕ). refused (Malformed place)) (laws.place bytes h.place k.place h.first k.first) ∙ sym k.is

pub taking_once : CommitLaws → ReplyLaws → HasOneOutcome take_mirror
taking_once commits replies = with_shared take_mirror (λ s input state. reply_once replies input (λ (set : ChangeSet). Commits set s.repository) (λ set. commits_once commits set s.repository))
