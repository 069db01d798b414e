-- How far the requests were answered in a loop.
use Rattle.std.proofs.Common.{◌≡◌, inl, inr, ℕ, ◌+◌, List, [], ◌++◌, drop, sym, ap, ◌∙◌, subst, append_assoc, append-nil}
use Rattle.std.proofs.lemmas.List.{drop-drop}
use Rattle.repo_load.specs.cny-base.declared.refusal.Fault.{Fault}
use Rattle.repo_load.specs.cny-base.declared.refusal.Fault.TheVariants as fault
use Rattle.repo_load.specs.cny-base.declared.refusal.Refusal.{Refusal}
use Rattle.repo_load.specs.tree-disk.Tree.{Tree}
use Rattle.repo_mirror.specs.declared.request.Request.{Request}
use Rattle.repo_serve.specs.Steps.{Advances, AnswersAll, Decides, HasAnswered, IsFaultOrMemory, IsNext, IsOver, IsUnansweredOf}
use Rattle.repo_serve.specs.declared.answering.Answered.{Answered}
use Rattle.repo_serve.proofs.Advancing.{at_start, one_more}

-- the fault of the next item decides
pub fault_decides : (tree : Tree) (answered : Answered) (bytes : List ℕ) (why : Fault) → IsFaultOrMemory answered bytes why → (refusal : Refusal) → why ≡ fault.Refused refusal → Decides tree answered bytes refusal
fault_decides tree answered bytes (fault.Refused own) bad refusal same = let one : own ≡ refusal = cc same in inl (sym one ∙ bad.0, bad.1)
fault_decides tree answered bytes fault.Memory bad refusal same = absurd (cc same)

-- so does the next request, where it has no reply
pub request_decides : (tree : Tree) (answered : Answered) (bytes : List ℕ) (request : Request) (to : ℕ) → IsNext answered.number bytes request to → (refusal : Refusal) → IsUnansweredOf request answered.sent tree refusal
    → Decides tree answered bytes refusal
request_decides tree answered bytes request to next refusal none =
    inr (λ r stores. record { request = request; more = drop to bytes; few = next.few; valid = next.valid; fits = next.fits; spelled = next.spelled; refused = none r stores })

-- so many bytes were used, and so many replies were put
pub record Progresses (tree : Tree) (from mid : Answered) (bytes : List ℕ) (used : ℕ) (old out : List ℕ) : Type 0 where
  pub replies : List ℕ
  pub advances : Advances tree from mid bytes (drop used bytes) replies
  pub put : out ≡ old ++ replies

module _ (tree : Tree) (from : Answered) (bytes old : List ℕ) where
  pub started : Progresses tree from from bytes 0 old old
  started = record { replies = []; advances = at_start tree from bytes; put = sym (append-nil old) }

  module _ (mid : Answered) (used : ℕ) (out : List ℕ) (so_far : Progresses tree from mid bytes used old out) where
    pub goes_on : (to : Answered) (new : List ℕ) (end : ℕ) → HasAnswered tree mid to (drop used bytes) out new end → Progresses tree from to bytes (used + end) old new
    goes_on to new end it = record {
      replies = so_far.replies ++ it.reply;
      advances = subst (λ (l : List ℕ). Advances tree from to bytes l (so_far.replies ++ it.reply)) (drop_more used end) (one_more tree from bytes mid (drop used bytes) so_far.replies so_far.advances to out new end it);
      put = it.put ∙ ap (λ (l : List ℕ). l ++ it.reply) so_far.put ∙ append_assoc old so_far.replies it.reply;
    }
      where
        drop_more : (i j : ℕ) → drop j (drop i bytes) ≡ drop (i + j) bytes
        drop_more i j = drop-drop j i bytes

    pub done : (to : Answered) (new : List ℕ) → IsOver mid.number (drop used bytes) → to ≡ mid → new ≡ out → AnswersAll tree from to bytes old new used
    done to new over same put = record {
      replies = so_far.replies;
      advances = subst (λ (a : Answered). Advances tree from a bytes (drop used bytes) so_far.replies) (sym same) so_far.advances;
      over = subst (λ (a : Answered). IsOver a.number (drop used bytes)) (sym same) over;
      put = put ∙ so_far.put;
    }
