-- Requests that are answered, one behind the other.
use Rattle.std.proofs.Common.{◌≡◌, ℕ, ◌+◌, ◌≤◌, List, [], ◌∷◌, ◌++◌, length, drop, Ok, refl, sym, ap, ◌∙◌, subst, arith, append_assoc, append-nil, length-append, length-drop}
use Rattle.std.specs.Prelude.{flat_map}
use Rattle.std.proofs.lemmas.Grind.{flat_map-append}
use Rattle.std.proofs.lemmas.List.Elements.{All-push}
use Rattle.repo_load.specs.cny-base.declared.refusal.Refusal.{Refusal}
use Rattle.repo_load.specs.trove-stream.declared.parts.TroveParts.{TroveParts}
use Rattle.repo_load.specs.tree-disk.Tree.{Name, Tree}
use Rattle.repo_mirror.specs.Requests.{request_bytes, FitsRequest, IsRequest}
use Rattle.repo_mirror.specs.declared.request.Request.{Request}
use Rattle.repo_load.specs.State.{Commit, RepositoryState}
use Rattle.repo_serve.specs.Reply.{IsReplyTo}
use Rattle.repo_serve.specs.Replies.{AreReplies}
use Rattle.repo_serve.specs.Serving.{IsRecordedLength, IsRecordedSum}
use Rattle.repo_serve.specs.Steps.{Advances, Decides, HasAnswered, IsDamagedBehind, IsDamagedNext, IsDecided, IsWithin}
use Rattle.repo_serve.specs.declared.answering.Answered.{Answered}

abbrev pub items_of : List Request → List ℕ
items_of requests = flat_map request_bytes requests

-- one reply more
pub one_reply_more : (r : RepositoryState) (requests : List Request) (request : Request) (replies reply : List ℕ) → AreReplies r requests replies → IsReplyTo r request (Ok reply)
    → AreReplies r (requests ++ request ∷ []) (replies ++ reply)
one_reply_more r [] request replies reply are is = (reply, [], is, refl, ap (λ (l : List ℕ). l ++ reply) are ∙ sym (append-nil reply))
one_reply_more r (q ∷ requests) request replies reply are is =
    (are.0, are.1 ++ reply, are.2, one_reply_more r requests request are.1 reply are.3 is, ap (λ (l : List ℕ). l ++ reply) are.4 ∙ append_assoc are.0 are.1 reply)

-- what records tell of one more
one_length_more : (commits : List Commit) (requests : List Request) (request : Request) (sum len : ℕ) → IsRecordedSum commits requests sum → IsRecordedLength commits request len
    → IsRecordedSum commits (requests ++ request ∷ []) (sum + len)
one_length_more commits [] request sum len are is = (len, 0, is, refl, omega (arith, are))
one_length_more commits (q ∷ requests) request sum len are is =
    (are.0, are.1 + len, are.2, one_length_more commits requests request are.1 len are.3 is, omega (arith, are.4))

-- one item more
pub one_item_more : (requests : List Request) (request : Request) → items_of (requests ++ request ∷ []) ≡ items_of requests ++ request_bytes request
one_item_more requests request = flat_map-append request_bytes requests (request ∷ []) ∙ ap (λ (l : List ℕ). items_of requests ++ l) (append-nil (request_bytes request))

module _ (tree : Tree) (from : Answered) (bytes : List ℕ) where
  -- nothing was answered yet
  pub at_start : Advances tree from from bytes bytes []
  at_start = record {
    requests = [];
    split = refl;
    requests_are = λ k d low. absurd (omega arith);
    fits = λ k d low. absurd (omega arith);
    replies_are = λ r stores. refl;
    recorded = λ commits holds. refl;
    number = omega arith;
    at = omega arith;
    sent = omega arith;
  }

  module _ (mid : Answered) (rest replies : List ℕ) (so_far : Advances tree from mid bytes rest replies) where
    -- one more
    pub one_more : (to : Answered) (old new : List ℕ) (end : ℕ) (it : HasAnswered tree mid to rest old new end) → Advances tree from to bytes (drop end rest) (replies ++ it.reply)
    one_more to old new end it =
        let q = it.request in
        let item = request_bytes q in
        let more = one_item_more so_far.requests q in
        let long = length-append item (drop end rest) in
        let spelled = ap (λ (l : List ℕ). length l) it.next.spelled in
        let left = length-drop end rest in
        let within : end ≤ length rest = it.next.within in
        let ends : end ≡ length item = omega (arith, long, spelled, left, within) in
        let behind = length-append (items_of so_far.requests) item in
        let sum = ap (λ (l : List ℕ). length l) more in
        let count = length-append so_far.requests (q ∷ []) in
        let size = length-append replies it.reply in
        record {
          requests = so_far.requests ++ q ∷ [];
          split = so_far.split ∙ ap (λ (l : List ℕ). items_of so_far.requests ++ l) it.next.spelled ∙ sym (append_assoc (items_of so_far.requests) item (drop end rest))
              ∙ ap (λ (l : List ℕ). l ++ drop end rest) (sym more);
          requests_are = All-push IsRequest so_far.requests q so_far.requests_are it.next.valid;
          fits = All-push FitsRequest so_far.requests q so_far.fits it.next.fits;
          replies_are = λ r stores. one_reply_more r so_far.requests q replies it.reply (so_far.replies_are r stores) (it.reply_is.states r stores);
          recorded = λ commits holds. subst (λ (n : ℕ). IsRecordedSum commits (so_far.requests ++ q ∷ []) n) (sym size)
              (one_length_more commits so_far.requests q (length replies) (length it.reply) (so_far.recorded commits holds) (it.reply_is.recorded commits holds));
          number = omega (arith, so_far.number, it.moved.number, count);
          at = omega (arith, so_far.at, it.moved.at, behind, sum, ends);
          sent = omega (arith, so_far.sent, it.moved.sent, size);
        }

    -- the next item decides
    pub decided : IsWithin mid → (refusal : Refusal) → Decides tree mid rest refusal → IsDecided tree from bytes refusal
    decided within refusal decides = record { to = mid; rest = rest; replies = replies; advances = so_far; within = within; decides = decides }

    -- a content of the next one is damaged
    pub damaged : IsWithin mid → (troves : List TroveParts) (path : Name) → IsDamagedNext troves mid.number rest tree path → IsDamagedBehind troves from bytes tree path
    damaged within troves path bad = record {
      requests = so_far.requests;
      sum = length replies;
      recorded = so_far.recorded;
      room = omega (arith, so_far.sent, within.room);
      request = bad.request;
      more = drop bad.to rest;
      few = omega (arith, so_far.number, bad.next.few);
      requests_are = so_far.requests_are;
      fits = so_far.fits;
      valid = bad.next.valid;
      fit = bad.next.fits;
      split = so_far.split ∙ ap (λ (l : List ℕ). items_of so_far.requests ++ l) bad.next.spelled;
      damaged = bad.damaged;
    }
