-- A whole stream is answered.
use Rattle.std.proofs.Common.{◌≡◌, inl, inr, ℕ, suc, ◌+◌, ◌≤◌, true, false, List, [], ◌∷◌, ◌++◌, length, drop, Ok, Err, refl, sym, ap, ◌∙◌, subst, arith, append_assoc, length-append, length-drop}
use Rattle.std.proofs.lemmas.Bool.{cond-true, cond-false}
use Rattle.cny_stream.specs.Item.{begins_unexpected}
use Rattle.cny_stream.proofs.Faults.{no_item}
use Rattle.repo_load.specs.cny-base.Below.{begins_with}
use Rattle.repo_load.specs.cny-base.declared.refusal.Fault.{Fault}
use Rattle.repo_load.specs.cny-base.declared.refusal.Fault.TheVariants as fault
use Rattle.repo_load.specs.cny-base.declared.refusal.Refusal.{Refusal}
use Rattle.repo_load.specs.cny-base.declared.refusal.Refusal.TheVariants.{Malformed}
use Rattle.repo_load.specs.trove-stream.declared.parts.TroveParts.{TroveParts}
use Rattle.repo_load.specs.tree-disk.Tree.{Name, Tree}
use Rattle.repo_load.proofs.cny-base.Below.{begins, begun}
use Rattle.repo_load.specs.Files.{StoresRepository}
use Rattle.repo_load.specs.State.{RepositoryState}
use Rattle.repo_mirror.specs.Faults.{IsMalformed, LacksMagic}
use Rattle.repo_mirror.specs.Replies.{reply_end, reply_magic}
use Rattle.repo_mirror.specs.Requests.{request_end, request_magic, request_tags}
use Rattle.repo_serve.specs.Replies.{reply_stream, AreAnswered, AreRequests, IsFaultAt, IsRefusedNext, IsServed, IsStopped}
use Rattle.repo_serve.specs.Serving.{IsDamagedReply, RepliesOf}
use Rattle.repo_serve.specs.Steps.{Advances, AnswersAll, Decides, IsCut, IsDamagedBehind, IsDecided, IsFault, IsLastFault, IsOver, IsWithin}
use Rattle.repo_serve.specs.declared.answering.Answered.{Answered}
use Rattle.repo_serve.proofs.Advancing.{items_of}

-- behind a magic
pub after_magic : (magic stream : List ℕ) → begins_with magic stream ≡ true → stream ≡ magic ++ drop (length magic) stream
after_magic magic stream is = let b = begun magic stream is in b.1 ∙ ap (λ (l : List ℕ). magic ++ l) (sym (dropped magic b.0) ∙ ap (drop (length magic)) (sym b.1))
  where
    dropped : (front rest : List ℕ) → drop (length front) (front ++ rest) ≡ rest
    dropped [] rest = refl
    dropped (x ∷ front) rest = dropped front rest

-- behind the magic
eight : (used : ℕ) (items : List ℕ) → drop (8 + used) (request_magic ++ items) ≡ drop used items
eight used items = ap (λ (n : ℕ). drop n (request_magic ++ items)) sum
  where
    sum : 8 + used ≡ suc (suc (suc (suc (suc (suc (suc (suc used)))))))
    sum = omega arith

-- ---- faults at a place

module _ (stream : List ℕ) (at number : ℕ) (rest : List ℕ) (here : drop at stream ≡ rest) where
  -- an item that is at fault lies at its first byte
  pub fault_here : IsFault number rest → IsFaultAt number stream at at
  fault_here (inl other) =
      let first : begins_unexpected (request_tags number) (drop at stream) ≡ true = ap (begins_unexpected (request_tags number)) here ∙ other in
      inl (inl (record {
        none = λ tag value after expected fits spelled. no_item (request_tags number) (drop at stream) first tag value after expected spelled;
        place_is = sym (cond-true (begins_unexpected (request_tags number) (drop at stream)) at (length stream) first);
      }))
  fault_here (inr bad) = inl (inr (record {
    tag = bad.tag;
    value = bad.value;
    rest = bad.rest;
    expected = bad.expected;
    fits = bad.fits;
    spelled = here ∙ bad.spelled;
    bad = bad.bad;
    place_is = refl;
  }))

  -- where no item is whole, the fault lies where the bytes end
  pub cut_here : IsCut number rest → IsFaultAt number stream at (length stream)
  cut_here cut =
      let first : begins_unexpected (request_tags number) (drop at stream) ≡ false = ap (begins_unexpected (request_tags number)) here ∙ cut.expected in
      inl (inl (record {
        none = λ tag value after expected fits spelled. cut.none tag value after expected fits (sym here ∙ spelled);
        place_is = sym (cond-false (begins_unexpected (request_tags number) (drop at stream)) at (length stream) first);
      }))

  -- where no request stands, and the bytes don't end as they are to
  pub last_fault : IsOver number rest → (place : ℕ) → IsLastFault stream at place → IsFaultAt number stream at place
  last_fault over place (inr on) = inr on
  last_fault (inl cut) place (inl none) = subst (IsFaultAt number stream at) (sym none.1) (cut_here cut)
  last_fault (inr end) place (inl none) =
      let so : begins_with request_end (drop at stream) ≡ true = ap (begins_with request_end) (here ∙ end) ∙ begins request_end (drop 5 rest) in
      absurd (cc (so, none.0))

-- ---- the outcome

module _ (tree : Tree) (from : Answered) (stream items : List ℕ) (begins_so : stream ≡ request_magic ++ items) (number_is : from.number ≡ 0) (at_is : from.at ≡ 8) (sent_is : from.sent ≡ 13) where
  module _ (to : Answered) (rest replies : List ℕ) (advances : Advances tree from to items rest replies) (within : IsWithin to) where
    abbrev front : List ℕ
    front = request_magic ++ items_of advances.requests

    count : to.number ≡ length advances.requests
    count = omega (arith, advances.number, number_is)

    place : to.at ≡ length front
    place = omega (arith, advances.at, at_is)

    split : stream ≡ front ++ rest
    split = begins_so ∙ ap (λ (l : List ℕ). request_magic ++ l) advances.split

    behind : drop (length front) stream ≡ rest
    behind = ap (drop (length front)) split ∙ dropped front rest
      where
        dropped : (front rest : List ℕ) → drop (length front) (front ++ rest) ≡ rest
        dropped [] rest = refl
        dropped (x ∷ front) rest = dropped front rest

    -- with the magic and the end
    size : length (reply_stream replies) ≡ to.sent
    size = omega (arith, advances.sent, sent_is, length-append replies reply_end)

    requests_are : AreRequests advances.requests front
    requests_are = record {
      few = omega (arith, count, within.few);
      requests_are = advances.requests_are;
      fits = advances.fits;
      text = refl;
    }

    module _ (r : RepositoryState) (stores : StoresRepository tree r) where
      answered : AreAnswered r advances.requests front replies
      answered = record {
        requests_are = requests_are;
        replies_are = advances.replies_are r stores;
        fits = omega (arith, size, within.room);
      }

      -- the end stands there
      pub served : rest ≡ request_end → IsServed r stream ((reply_magic ++ replies) ++ reply_end)
      served ends = record {
        requests = advances.requests;
        replies = replies;
        stream_is = record {
          few = requests_are.few;
          requests_are = advances.requests_are;
          fits = advances.fits;
          text = begins_so ∙ ap (λ (l : List ℕ). request_magic ++ l) (advances.split ∙ ap (λ (l : List ℕ). items_of advances.requests ++ l) ends);
        };
        replies_are = advances.replies_are r stores;
        is = append_assoc reply_magic replies reply_end;
        fits = omega (arith, size, within.room, ap (λ (l : List ℕ). length l) (append_assoc reply_magic replies reply_end));
      }

      at_fault : (lies : ℕ) (refusal : Refusal) → refusal ≡ Malformed lies → IsFaultAt to.number stream (length front) lies → IsStopped r stream refusal
      at_fault lies refusal is fault = record {
        requests = advances.requests;
        front = front;
        rest = rest;
        replies = replies;
        split = split;
        answered = answered;
        decides = inl (lies, is, subst (λ (n : ℕ). IsFaultAt n stream (length front) lies) count fault);
      }

      -- the next item decides
      pub stopped : (refusal : Refusal) → Decides tree to rest refusal → IsStopped r stream refusal
      stopped refusal (inl fault) =
          at_fault (length front) refusal (fault.0 ∙ ap (λ (n : ℕ). Malformed n) place) (fault_here stream (length front) to.number rest behind fault.1)
      stopped refusal (inr none) = record {
        requests = advances.requests;
        front = front;
        rest = rest;
        replies = replies;
        split = split;
        answered = answered;
        decides = inr (subst (λ (n : ℕ). IsRefusedNext r (length advances.requests) n rest refusal) (sym size) (subst (λ (n : ℕ). IsRefusedNext r n to.sent rest refusal) count (none r stores)));
      }

      -- the bytes don't end there as they are to
      pub not_ended : (lies : ℕ) → IsOver to.number rest → (at : ℕ) → at ≡ length front → IsLastFault stream at lies → IsStopped r stream (Malformed lies)
      not_ended lies over at is fault =
          at_fault lies (Malformed lies) refl (last_fault stream (length front) to.number rest behind over lies (subst (λ (n : ℕ). IsLastFault stream n lies) is fault))

  -- what is decided
  pub refused : (refusal : Refusal) → IsDecided tree from items refusal → RepliesOf tree stream (Err refusal)
  refused refusal d r stores = inr (stopped d.to d.rest d.replies d.advances d.within r stores refusal d.decides)

  -- a damaged content
  pub damaged : (troves : List TroveParts) (path : Name) → IsDamagedBehind troves from items tree path → IsDamagedReply troves stream tree path
  damaged troves path bad = record {
    requests = bad.requests;
    front = request_magic ++ items_of bad.requests;
    request = bad.request;
    more = bad.more;
    requests_are = record { few = omega (arith, bad.few, number_is); requests_are = bad.requests_are; fits = bad.fits; text = refl };
    allowed = λ commits holds. (bad.sum, bad.recorded commits holds, omega (arith, bad.room, sent_is));
    valid = bad.valid;
    split = begins_so ∙ ap (λ (l : List ℕ). request_magic ++ l) bad.split;
    damaged = bad.damaged;
  }

  -- ---- all of it

  module _ (to : Answered) (new : List ℕ) (used : ℕ) (all : AnswersAll tree from to items reply_magic new used) (within : IsWithin to) (most : used ≤ length items) where
    used_is : used ≡ length (items_of all.advances.requests)
    used_is = omega (arith, most, ap (λ (l : List ℕ). length l) all.advances.split, length-append (items_of all.advances.requests) (drop used items), length-drop used items)

    pub all_served : (out : List ℕ) → drop (8 + used) stream ≡ request_end → out ≡ new ++ reply_end → RepliesOf tree stream (Ok out)
    all_served out ends is r stores =
        subst (λ (l : List ℕ). IsServed r stream l) (sym (is ∙ ap (λ (l : List ℕ). l ++ reply_end) all.put))
        (served to (drop used items) all.replies all.advances within r stores (sym behind_all ∙ ends))
      where
        behind_all : drop (8 + used) stream ≡ drop used items
        behind_all = ap (λ (l : List ℕ). drop (8 + used) l) begins_so ∙ eight used items

    pub all_stopped : (why : Fault) → IsMalformed (IsLastFault stream (8 + used)) why → (refusal : Refusal) → why ≡ fault.Refused refusal → RepliesOf tree stream (Err refusal)
    all_stopped (fault.Refused own) bad refusal same r stores =
        let one : own ≡ refusal = cc same in
        inr (subst (λ (w : Refusal). IsStopped r stream w) (sym bad.1 ∙ one)
        (not_ended to (drop used items) all.replies all.advances within r stores bad.0 all.over (8 + used) (omega (arith, used_is)) bad.2))
    all_stopped fault.Memory bad refusal same r stores = absurd (cc same)

-- a stream without its magic
pub lacking : (tree : Tree) (stream : List ℕ) (why : Fault) → IsMalformed (LacksMagic request_magic stream) why → (refusal : Refusal) → why ≡ fault.Refused refusal → RepliesOf tree stream (Err refusal)
lacking tree stream (fault.Refused own) bad refusal same r stores = let one : own ≡ refusal = cc same in inl (bad.0, sym one ∙ bad.1, bad.2)
lacking tree stream fault.Memory bad refusal same r stores = absurd (cc same)
