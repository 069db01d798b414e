-- Of requests that were answered, and what stands behind them: what it decides, and how it ends.
use Rattle.std.proofs.Common.{◌≡◌, ◌≢◌, inl, inr, ℕ, ◌+◌, ◌<◌, ◌≤◌, Bool, true, false, ◌&&◌, List, [], ◌∷◌, ◌++◌, length, drop, Ok, Err, refl, sym, ap, ◌∙◌, subst, arith, append_assoc, length-append}
use Rattle.std.specs.Prelude.{nat_lt, if◌then◌else◌, ◌==◌, ◌⊎◌}
use Rattle.std.proofs.lemmas.Bool.Decides.{nat_tests}
use Rattle.std.proofs.lemmas.Grind.{flat_map-append}
use Rattle.std.proofs.lemmas.List.Elements.{All-append}
use Rattle.cny_stream.specs.Item.{item_bytes}
use Rattle.cny_stream.proofs.Faults.{still}
use Rattle.repo_load.specs.cny-base.Below.{begins_with}
use Rattle.repo_load.specs.cny-base.declared.limits.TheConstants.{MESSAGE_LIMIT}
use Rattle.repo_load.specs.cny-base.declared.refusal.Refusal.{Refusal}
use Rattle.repo_load.specs.cny-base.declared.refusal.Refusal.TheVariants.{Malformed}
use Rattle.repo_load.specs.tree-disk.Tree.{Tree}
use Rattle.repo_load.proofs.cny-base.Below.{begun}
use Rattle.repo_load.specs.Files.{StoresRepository}
use Rattle.repo_load.specs.State.{RepositoryState}
use Rattle.repo_mirror.specs.Replies.{reply_end, reply_magic}
use Rattle.repo_mirror.specs.Requests.{request_bytes, request_end, request_magic, request_tags, FitsRequest, IsRequest}
use Rattle.repo_mirror.specs.declared.request.Request.{Request}
use Rattle.repo_serve.specs.Replies.{reply_stream, AreAnswered, AreReplies, IsFaultAt, IsMalformedAt, IsRefusedNext, Replies}
use Rattle.repo_serve.specs.Sessions.{IsBehindEnd, IsDecidedFor, IsPartly}
use Rattle.repo_serve.specs.Steps.{Advances, Decides, IsCut, IsFault, IsWithin}
use Rattle.repo_serve.specs.declared.answering.Answered.{Answered}
use Rattle.repo_serve.specs.declared.unanswered.Unanswered.{Unanswered}
use Rattle.repo_serve.proofs.Advancing.{items_of}
use Rattle.repo_serve.proofs.WholeStreams.{cut_here, fault_here}

-- ---- more bytes

-- an item that is at fault stays so
still_fault : (number : ℕ) (rest more : List ℕ) → IsFault number rest → IsFault number (rest ++ more)
still_fault number rest more (inl other) = inl (still (request_tags number) rest more other)
still_fault number rest more (inr bad) = inr (record {
  tag = bad.tag;
  value = bad.value;
  rest = bad.rest ++ more;
  expected = bad.expected;
  fits = bad.fits;
  spelled = ap (λ (l : List ℕ). l ++ more) bad.spelled ∙ append_assoc (item_bytes bad.tag bad.value) bad.rest more;
  bad = bad.bad;
})

-- and a request that has no reply
still_refused : (r : RepositoryState) (number sent : ℕ) (rest more : List ℕ) (refusal : Refusal) → IsRefusedNext r number sent rest refusal → IsRefusedNext r number sent (rest ++ more) refusal
still_refused r number sent rest more refusal none = record {
  request = none.request;
  more = none.more ++ more;
  few = none.few;
  valid = none.valid;
  fits = none.fits;
  spelled = ap (λ (l : List ℕ). l ++ more) none.spelled ∙ append_assoc (request_bytes none.request) none.more more;
  refused = none.refused;
}

not_empty : (rest more : List ℕ) → rest ≢ [] → rest ++ more ≢ []
not_empty [] more some = λ none. some refl
not_empty (x ∷ rest) more some = λ none. absurd (cc none)

dropped : (front rest : List ℕ) → drop (length front) (front ++ rest) ≡ rest
dropped [] rest = refl
dropped (x ∷ front) rest = dropped front rest

-- ---- the magic

begins_front : (magic bytes more : List ℕ) → length magic ≤ length bytes → begins_with magic (bytes ++ more) ≡ begins_with magic bytes
begins_front [] bytes more enough = refl
begins_front (a ∷ magic) [] more enough = absurd (omega (arith, enough))
begins_front (a ∷ magic) (b ∷ bytes) more enough = ap (λ (test : Bool). a == b && test) (begins_front magic bytes more (omega (arith, enough)))

first_place : (m n : ℕ) → n ≤ m → 0 ≡ (if nat_lt m n then m else 0)
first_place m n enough = grind (arith, nat_tests)

last_place : (m n : ℕ) → m < n → m ≡ (if nat_lt m n then m else 0)
last_place m n few = grind (arith, nat_tests)

-- other bytes stand there, whatever comes
pub other_magic : (r : RepositoryState) (given : List ℕ) → 8 ≤ length given → begins_with request_magic given ≡ false → IsDecidedFor r given (Malformed 0)
other_magic r given enough other more = inl (
  0,
  refl,
  record {
    lacks = begins_front request_magic given more enough ∙ other;
    place_is = first_place (length (given ++ more)) 8 (omega (arith, enough, length-append given more));
  },
)

-- it isn't whole
pub no_magic : (r : RepositoryState) (given : List ℕ) → length given < 8 → Replies r given (Err (Malformed (length given)))
no_magic r given few = inl (length given, refl, record { lacks = by (begins_with request_magic given) refl; place_is = last_place (length given) 8 few })
  where
    by : (b : Bool) → begins_with request_magic given ≡ b → begins_with request_magic given ≡ false
    by true is = let whole = begun request_magic given is in absurd (omega (arith, few, ap (λ (l : List ℕ). length l) whole.1, length-append request_magic whole.0))
    by false is = is

-- ---- replies to more requests

pub more_replies : (r : RepositoryState) (a b : List Request) (x y : List ℕ) → AreReplies r a x → AreReplies r b y → AreReplies r (a ++ b) (x ++ y)
more_replies r [] b x y are others = subst (λ (l : List ℕ). AreReplies r b l) (sym (ap (λ (l : List ℕ). l ++ y) are)) others
more_replies r (q ∷ a) b x y are others = (are.0, are.1 ++ y, are.2, more_replies r a b are.1 y are.3 others, ap (λ (l : List ℕ). l ++ y) are.4 ∙ append_assoc are.0 are.1 y)

module _ (r : RepositoryState) (it : Unanswered) (given gained : List ℕ) (p : IsPartly r it given gained) where
  here : (more : List ℕ) → drop (length p.front) (given ++ more) ≡ it.tail ++ more
  here more = ap (λ (l : List ℕ). drop (length p.front) (l ++ more)) p.given_is ∙ ap (drop (length p.front)) (append_assoc p.front it.tail more) ∙ dropped p.front (it.tail ++ more)

  -- more stands behind the end
  pub behind_end : (place : ℕ) → IsBehindEnd it place → IsDecidedFor r given (Malformed place)
  behind_end place b more = inr (record {
    requests = p.requests;
    front = p.front;
    rest = it.tail ++ more;
    replies = p.replies;
    split = ap (λ (l : List ℕ). l ++ more) p.given_is ∙ append_assoc p.front it.tail more;
    answered = p.answered;
    decides = inl (
      place,
      refl,
      inr (record {
        rest = b.rest ++ more;
        spelled = here more ∙ ap (λ (l : List ℕ). l ++ more) b.spelled ∙ append_assoc request_end b.rest more;
        more = not_empty b.rest more b.more;
        place_is = b.place_is ∙ ap (λ (n : ℕ). n + 5) p.at;
      }),
    );
  })

  -- the end stands there, and nothing behind it
  pub served : it.tail ≡ request_end → Replies r given (Ok (gained ++ reply_end))
  served ends = record {
    requests = p.requests;
    replies = p.replies;
    stream_is = record {
      few = p.answered.requests_are.few;
      requests_are = p.answered.requests_are.requests_are;
      fits = p.answered.requests_are.fits;
      text = p.given_is ∙ ap (λ (l : List ℕ). l ++ it.tail) p.answered.requests_are.text ∙ append_assoc request_magic (items_of p.requests) it.tail
          ∙ ap (λ (l : List ℕ). request_magic ++ (items_of p.requests ++ l)) ends;
    };
    replies_are = p.answered.replies_are;
    is = whole;
    fits = subst (λ (l : List ℕ). length l ≤ MESSAGE_LIMIT) (sym whole) p.answered.fits;
  }
    where
      whole : gained ++ reply_end ≡ reply_stream p.replies
      whole = ap (λ (l : List ℕ). l ++ reply_end) p.gained_is ∙ append_assoc reply_magic p.replies reply_end

  -- no whole item stands there
  pub ends_early : IsCut it.answered.number it.tail → Replies r given (Err (Malformed (length given)))
  ends_early cut = inr (record {
    requests = p.requests;
    front = p.front;
    rest = it.tail;
    replies = p.replies;
    split = p.given_is;
    answered = p.answered;
    decides = inl (length given, refl, cut_here given (length p.front) (length p.requests) it.tail (ap (drop (length p.front)) p.given_is ∙ dropped p.front it.tail) (subst (λ (n : ℕ). IsCut n it.tail) p.number cut));
  })

  -- ---- some more requests are answered

  module _ (tree : Tree) (stores : StoresRepository tree r) (to : Answered) (rest replies : List ℕ) (on : Advances tree it.answered to it.tail rest replies) (within : IsWithin to) where
    abbrev all : List Request
    all = p.requests ++ on.requests

    abbrev front : List ℕ
    front = p.front ++ items_of on.requests

    count : to.number ≡ length all
    count = omega (arith, on.number, p.number, length-append p.requests on.requests)

    place : to.at ≡ length front
    place = omega (arith, on.at, p.at, length-append p.front (items_of on.requests))

    size : to.sent ≡ length (p.replies ++ replies) + 13
    size = omega (arith, on.sent, p.sent, length-append p.replies replies)

    long : length (reply_stream (p.replies ++ replies)) ≡ to.sent
    long = omega (arith, size, length-append (p.replies ++ replies) reply_end)

    text : front ≡ request_magic ++ items_of all
    text = ap (λ (l : List ℕ). l ++ items_of on.requests) p.answered.requests_are.text ∙ append_assoc request_magic (items_of p.requests) (items_of on.requests)
        ∙ ap (λ (l : List ℕ). request_magic ++ l) (sym (flat_map-append request_bytes p.requests on.requests))

    answered : AreAnswered r all front (p.replies ++ replies)
    answered = record {
      requests_are = record {
        few = omega (arith, count, within.few);
        requests_are = All-append IsRequest p.requests on.requests p.answered.requests_are.requests_are on.requests_are;
        fits = All-append FitsRequest p.requests on.requests p.answered.requests_are.fits on.fits;
        text = text;
      };
      replies_are = more_replies r p.requests on.requests p.replies replies p.answered.replies_are (on.replies_are r stores);
      fits = omega (arith, long, within.room);
    }

    split : given ≡ front ++ rest
    split = p.given_is ∙ ap (λ (l : List ℕ). p.front ++ l) on.split ∙ sym (append_assoc p.front (items_of on.requests) rest)

    -- they are answered too
    pub partly_on : (next : Unanswered) → next.answered ≡ to → next.tail ≡ rest → IsPartly r next given (gained ++ replies)
    partly_on next same left = record {
      requests = all;
      front = front;
      replies = p.replies ++ replies;
      answered = answered;
      given_is = split ∙ ap (λ (l : List ℕ). front ++ l) (sym left);
      gained_is = ap (λ (l : List ℕ). l ++ replies) p.gained_is ∙ append_assoc reply_magic p.replies replies;
      number = ap (λ (a : Answered). a.number) same ∙ count;
      at = ap (λ (a : Answered). a.at) same ∙ place;
      sent = ap (λ (a : Answered). a.sent) same ∙ size;
    }

    -- and behind them the next item decides
    module _ (refusal : Refusal) (more : List ℕ) where
      whole : given ++ more ≡ front ++ (rest ++ more)
      whole = ap (λ (l : List ℕ). l ++ more) split ∙ append_assoc front rest more

      there : drop (length front) (given ++ more) ≡ rest ++ more
      there = ap (drop (length front)) whole ∙ dropped front (rest ++ more)

      stops : (IsMalformedAt (IsFaultAt (length all) (given ++ more) (length front)) refusal ⊎ IsRefusedNext r (length all) (length (reply_stream (p.replies ++ replies))) (rest ++ more) refusal) → Replies r (given ++ more) (Err refusal)
      stops decides = inr (record { requests = all; front = front; rest = rest ++ more; replies = p.replies ++ replies; split = whole; answered = answered; decides = decides })

      pub next_decides : Decides tree to rest refusal → Replies r (given ++ more) (Err refusal)
      next_decides (inl fault) =
          stops (inl (
            length front,
            fault.0 ∙ ap (λ (n : ℕ). Malformed n) place,
            fault_here (given ++ more) (length front) (length all) (rest ++ more) there (subst (λ (n : ℕ). IsFault n (rest ++ more)) count (still_fault to.number rest more fault.1)),
          ))
      next_decides (inr none) =
          stops (inr (subst (λ (n : ℕ). IsRefusedNext r (length all) n (rest ++ more) refusal) (sym long)
          (subst (λ (n : ℕ). IsRefusedNext r n to.sent (rest ++ more) refusal) count (still_refused r to.number to.sent rest more refusal (none r stores)))))
