-- A state has one answer to a stream of requests.
use Rattle.std.proofs.Common.{◌≡◌, ◌⊎◌, inl, inr, ⊎_elim, ℕ, ◌+◌, ◌<◌, ◌≤◌, Bool, true, false, IsTrue, List, [], ◌∷◌, ◌++◌, length, drop, All, Result, Ok, Err, refl, sym, ap, ◌∙◌, subst, arith, append_assoc, append-nil, length-append}
use Rattle.std.specs.Prelude.{nat_lt, if◌then◌else◌}
use Rattle.std.proofs.lemmas.Bool.{lt-ltb}
use Rattle.std.proofs.lemmas.List.{append_cancel_left}
use Rattle.std.proofs.lemmas.List.Elements.{All-head, All-tail}
use Rattle.cny_stream.specs.Item.{is_expected}
use Rattle.cny_stream.proofs.ItemLaws.{same_item}
use Rattle.repo_load.specs.cny-base.Below.{begins_with}
use Rattle.repo_load.specs.cny-base.declared.limits.TheConstants.{MESSAGE_LIMIT}
use Rattle.repo_load.specs.cny-base.declared.refusal.Refusal.{Refusal}
use Rattle.repo_load.specs.cny-base.declared.refusal.Refusal.TheVariants.{Malformed, TooLarge}
use Rattle.repo_load.specs.cny-base.declared.refusal.What.TheVariants.{Message}
use Rattle.repo_load.proofs.cny-base.Below.{begins}
use Rattle.repo_load.proofs.cny-base.Lists.{all_at}
use Rattle.repo_load.specs.State.{RepositoryState}
use Rattle.repo_mirror.specs.Faults.{IsItemFault, LacksMagic}
use Rattle.repo_mirror.specs.Replies.{reply_end}
use Rattle.repo_mirror.specs.Requests.{request_bytes, request_end, request_magic, request_tag, request_tags, request_value, FitsRequest, IsGoodRequest, IsRequest}
use Rattle.repo_mirror.specs.declared.request.Request.{Request}
use Rattle.repo_mirror.specs.declared.request.Request.TheVariants.{Named, Content, Missing}
use Rattle.repo_mirror.specs.declared.request.TheConstants.{REQUESTS_LIMIT}
use Rattle.repo_mirror.proofs.ItemFaults.{no_fault, one_fault}
use Rattle.repo_serve.specs.Reply.{IsReplyTo}
use Rattle.repo_serve.specs.Replies.{reply_stream, AreReplies, IsFaultAt, IsMalformedAt, IsRefusedNext, IsServed, IsStopped, IsTooLong, IsUnanswered, Replies}
use Rattle.repo_serve.proofs.Advancing.{items_of}
use Rattle.repo_serve.proofs.OneReply.{length_or_none, one_length, one_refusal, reply_long, reply_or_none, same_replies, same_request, split_replies, DistinctIds, OneMissing, SetLength}

-- ---- tags

not_end : (q : Request) → request_tag q ≡ 0x7F → ⊥
not_end (Named name) is = absurd (omega (arith, is))
not_end (Content name) is = absurd (omega (arith, is))
not_end (Missing ids) is = absurd (omega (arith, is))

-- an item of a request isn't the end
no_end : (q : Request) (x y : List ℕ) → FitsRequest q → request_bytes q ++ x ≡ request_end ++ y → ⊥
no_end q x y fits is = not_end q (same_item (request_tag q) 0x7F (request_value q) [] x y fits (omega arith) is).tags

expected_four : (q : Request) → IsTrue (is_expected (0x70 ∷ 0x71 ∷ 0x72 ∷ 0x7F ∷ []) (request_tag q))
expected_four (Named name) = refl
expected_four (Content name) = refl
expected_four (Missing ids) = refl

expected_request : (number : ℕ) (q : Request) → number < REQUESTS_LIMIT → IsTrue (is_expected (request_tags number) (request_tag q))
expected_request number q few = by (nat_lt number REQUESTS_LIMIT) (lt-ltb number REQUESTS_LIMIT few)
  where
    by : (b : Bool) → b ≡ true → IsTrue (is_expected (if b then 0x70 ∷ 0x71 ∷ 0x72 ∷ 0x7F ∷ [] else 0x7F ∷ []) (request_tag q))
    by true is = expected_four q
    by false is = absurd (cc is)

expected_end : (number : ℕ) → IsTrue (is_expected (request_tags number) 0x7F)
expected_end number = by (nat_lt number REQUESTS_LIMIT)
  where
    by : (b : Bool) → IsTrue (is_expected (if b then 0x70 ∷ 0x71 ∷ 0x72 ∷ 0x7F ∷ [] else 0x7F ∷ []) 0x7F)
    by true = refl
    by false = refl

-- ---- two readings of one stream

-- the second one goes on where the first one stands
record GoesBehind (a b : List Request) (x y : List ℕ) : Type 0 where
  more : List Request
  longer : b ≡ a ++ more
  rest : x ≡ items_of more ++ y

abbrev AreGood : List Request → Type 0
AreGood requests = All IsRequest requests × All FitsRequest requests

module _ (distinct : DistinctIds) where
  two_fronts : (a b : List Request) (x y : List ℕ) → AreGood a → AreGood b → items_of a ++ x ≡ items_of b ++ y → GoesBehind a b x y ⊎ GoesBehind b a y x
  two_fronts [] b x y good other is = inl (record { more = b; longer = refl; rest = is })
  two_fronts (q ∷ a) [] x y good other is = inr (record { more = q ∷ a; longer = refl; rest = sym is })
  two_fronts (q ∷ a) (p ∷ b) x y good other is =
      let one = same_request distinct q p (items_of a ++ x) (items_of b ++ y) (All-head IsRequest q a good.0) (All-head IsRequest p b other.0) (All-head FitsRequest q a good.1) (All-head FitsRequest p b other.1)
      (sym (append_assoc (request_bytes q) (items_of a) x) ∙ is ∙ append_assoc (request_bytes p) (items_of b) y) in
      let first : q ≡ p = one.0 in
      ⊎_elim
      (λ (on : GoesBehind a b x y). inl (record { more = on.more; longer = λ i. sym first i ∷ on.longer i; rest = on.rest }))
      (λ (on : GoesBehind b a y x). inr (record { more = on.more; longer = λ i. first i ∷ on.longer i; rest = on.rest }))
      (two_fronts a b x y (All-tail IsRequest q a good.0, All-tail FitsRequest q a good.1) (All-tail IsRequest p b other.0, All-tail FitsRequest p b other.1) one.1)

-- ---- what decides at one place

-- behind so many requests the stream is at fault at `at`, or the request there has no reply
abbrev DecidesAt : RepositoryState → ℕ → ℕ → ℕ → List ℕ → List ℕ → Refusal → Type 0
DecidesAt r number sent at stream rest refusal = IsMalformedAt (IsFaultAt number stream at) refusal ⊎ IsRefusedNext r number sent rest refusal

module _ (number at : ℕ) (stream rest : List ℕ) (here : drop at stream ≡ rest) where
  -- a request is no fault
  no_fault_request : (q : Request) (more : List ℕ) → number < REQUESTS_LIMIT → IsRequest q → FitsRequest q → rest ≡ request_bytes q ++ more → (place : ℕ) → IsFaultAt number stream at place → ⊥
  no_fault_request q more few valid fits spelled place (inl fault) =
      no_fault IsGoodRequest (request_tags number) at stream (request_tag q) (request_value q) more (expected_request number q few) fits (here ∙ spelled)
      (λ tag value tags values. inl (q, record { valid = valid; tagged = tags; spelled = values })) place fault
  no_fault_request q more few valid fits spelled place (inr on) = no_end q more on.rest fits (sym (here ∙ spelled) ∙ on.spelled)

  -- nor is the end
  end_is_good : (y : List ℕ) → rest ≡ request_end ++ y → (place : ℕ) → IsItemFault IsGoodRequest (request_tags number) at stream place → ⊥
  end_is_good y is place fault =
      no_fault IsGoodRequest (request_tags number) at stream 0x7F [] y (expected_end number) (omega arith) (here ∙ is) (λ tag value tags values. inr (tags, values)) place fault

  no_fault_end : rest ≡ request_end → (place : ℕ) → IsFaultAt number stream at place → ⊥
  no_fault_end is place (inl fault) = end_is_good [] (is ∙ sym (append-nil request_end)) place fault
  no_fault_end is place (inr on) = on.more (append_cancel_left request_end on.rest [] (sym on.spelled ∙ here ∙ is ∙ sym (append-nil request_end)))

  one_place : (place other : ℕ) → IsFaultAt number stream at place → IsFaultAt number stream at other → place ≡ other
  one_place place other (inl a) (inl b) = one_fault IsGoodRequest (request_tags number) at stream place other a b
  one_place place other (inl a) (inr b) = absurd (end_is_good b.rest (sym here ∙ b.spelled) place a)
  one_place place other (inr a) (inl b) = absurd (end_is_good a.rest (sym here ∙ a.spelled) other b)
  one_place place other (inr a) (inr b) = a.place_is ∙ sym b.place_is

  module _ (distinct : DistinctIds) (one_missing : OneMissing) (r : RepositoryState) (sent : ℕ) where
    -- a request with a reply that has room doesn't decide
    answered : SetLength → (refusal : Refusal) → DecidesAt r number sent at stream rest refusal → (q : Request) (more reply : List ℕ) → number < REQUESTS_LIMIT → IsRequest q → FitsRequest q
        → rest ≡ request_bytes q ++ more → IsReplyTo r q (Ok reply) → sent + length reply ≤ MESSAGE_LIMIT → ⊥
    answered set_long refusal (inl fault) q more reply few valid fits spelled is room = no_fault_request q more few valid fits spelled fault.0 fault.2
    answered set_long refusal (inr none) q more reply few valid fits spelled is room =
        let same : none.request ≡ q = (same_request distinct none.request q none.more more none.valid valid none.fits fits (sym none.spelled ∙ spelled)).0 in
        ⊎_elim
        (λ refused. reply_or_none r one_missing none.request reply refusal own refused)
        (λ (long : IsTooLong r none.request sent refusal).
        let len = reply_long r one_missing set_long none.request reply long.len own long.len_is in
        absurd (omega (arith, len, long.long, room)))
        none.refused
      where
        own : IsReplyTo r none.request (Ok reply)
        own = subst (λ (p : Request). IsReplyTo r p (Ok reply)) (sym ((same_request distinct none.request q none.more more none.valid valid none.fits fits (sym none.spelled ∙ spelled)).0)) is

    -- the end doesn't
    ended : (refusal : Refusal) → DecidesAt r number sent at stream rest refusal → rest ≡ request_end → ⊥
    ended refusal (inl fault) is = no_fault_end is fault.0 fault.2
    ended refusal (inr none) is = no_end none.request none.more [] none.fits (sym none.spelled ∙ is ∙ sym (append-nil request_end))

    same_unanswered : (q : Request) (a b : Refusal) → IsUnanswered r q sent a → IsUnanswered r q sent b → a ≡ b
    same_unanswered q a b (inl x) (inl y) = one_refusal r one_missing q a b x y
    same_unanswered q a b (inl x) (inr y) = absurd (length_or_none r one_missing q y.len a y.len_is x)
    same_unanswered q a b (inr x) (inl y) = absurd (length_or_none r one_missing q x.len b x.len_is y)
    same_unanswered q a b (inr x) (inr y) = x.refused ∙ ap (λ (n : ℕ). TooLarge Message (sent + n)) (one_length r one_missing q x.len y.len x.len_is y.len_is) ∙ sym y.refused

    -- one refusal
    same_decision : (a b : Refusal) → DecidesAt r number sent at stream rest a → DecidesAt r number sent at stream rest b → a ≡ b
    same_decision a b (inl x) (inl y) = x.1 ∙ ap (λ (n : ℕ). Malformed n) (one_place x.0 y.0 x.2 y.2) ∙ sym y.1
    same_decision a b (inl x) (inr y) = absurd (no_fault_request y.request y.more y.few y.valid y.fits y.spelled x.0 x.2)
    same_decision a b (inr x) (inl y) = absurd (no_fault_request x.request x.more x.few x.valid x.fits x.spelled y.0 y.2)
    same_decision a b (inr x) (inr y) =
        let same : x.request ≡ y.request = (same_request distinct x.request y.request x.more y.more x.valid y.valid x.fits y.fits (sym x.spelled ∙ y.spelled)).0 in
        same_unanswered y.request a b (subst (λ (p : Request). IsUnanswered r p sent a) same x.refused) y.refused

-- ---- outcomes

dropped : (front rest : List ℕ) → drop (length front) (front ++ rest) ≡ rest
dropped [] rest = refl
dropped (x ∷ front) rest = dropped front rest

module _ (distinct : DistinctIds) (one_missing : OneMissing) (set_long : SetLength) (r : RepositoryState) (stream : List ℕ) where
  lacks_no_magic : (rest : List ℕ) → stream ≡ request_magic ++ rest → (place : ℕ) → LacksMagic request_magic stream place → ⊥
  lacks_no_magic rest is place lacks = let so : begins_with request_magic stream ≡ true = ap (begins_with request_magic) is ∙ begins request_magic rest in absurd (cc (so, lacks.lacks))

  -- where one is stopped
  module _ (refusal : Refusal) (s : IsStopped r stream refusal) where
    items_there : stream ≡ request_magic ++ (items_of s.requests ++ s.rest)
    items_there = s.split ∙ ap (λ (l : List ℕ). l ++ s.rest) s.answered.requests_are.text ∙ append_assoc request_magic (items_of s.requests) s.rest

    here : drop (length s.front) stream ≡ s.rest
    here = ap (drop (length s.front)) s.split ∙ dropped s.front s.rest

    good : AreGood s.requests
    good = (s.answered.requests_are.requests_are, s.answered.requests_are.fits)

    -- requests that are all answered don't go on there
    not_answered : (requests : List Request) (bytes : List ℕ) → length requests ≤ REQUESTS_LIMIT → AreGood requests → AreReplies r requests bytes → length (reply_stream bytes) ≤ MESSAGE_LIMIT
        → (q : Request) (more : List Request) (x : List ℕ) → requests ≡ s.requests ++ q ∷ more → s.rest ≡ request_bytes q ++ x → ⊥
    not_answered requests bytes few good' are fits q more x is spelled =
        let own : AreReplies r (s.requests ++ q ∷ more) bytes = subst (λ (l : List Request). AreReplies r l bytes) is are in
        let parts = split_replies r one_missing s.requests q more bytes own in
        let same = same_replies r one_missing s.requests parts.before s.replies parts.before_are s.answered.replies_are in
        let counts = ap (λ (l : List Request). length l) is in
        let long = ap (λ (l : List ℕ). length l) parts.is in
        let same_long = ap (λ (l : List ℕ). length l) same in
        answered (length s.requests) (length s.front) stream s.rest here distinct one_missing r (length (reply_stream s.replies)) set_long refusal s.decides q x parts.reply
        (omega (arith, few, counts, length-append s.requests (q ∷ more)))
        (all_at IsRequest s.requests q more (subst (λ (l : List Request). All IsRequest l) is good'.0))
        (all_at FitsRequest s.requests q more (subst (λ (l : List Request). All FitsRequest l) is good'.1))
        spelled parts.reply_is
        (omega (arith, fits, long, same_long, length-append bytes reply_end, length-append s.replies reply_end, length-append parts.before (parts.reply ++ parts.after), length-append parts.reply parts.after))

    -- the same of requests that go on behind these
    not_behind : (requests : List Request) (bytes y : List ℕ) → length requests ≤ REQUESTS_LIMIT → AreGood requests → AreReplies r requests bytes → length (reply_stream bytes) ≤ MESSAGE_LIMIT
        → (q : Request) (more : List Request) → requests ≡ s.requests ++ q ∷ more → s.rest ≡ items_of (q ∷ more) ++ y → ⊥
    not_behind requests bytes y few good' are fits q more is rest =
        not_answered requests bytes few good' are fits q more (items_of more ++ y) is (rest ∙ append_assoc (request_bytes q) (items_of more) y)

  served_or_stopped : (out : List ℕ) (refusal : Refusal) → IsServed r stream out → IsStopped r stream refusal → ⊥
  served_or_stopped out refusal a s = ⊎_elim
      (λ (on : GoesBehind a.requests s.requests request_end s.rest). shorter on.more on.longer on.rest)
      (λ (on : GoesBehind s.requests a.requests s.rest request_end). longer on.more on.longer on.rest)
      (two_fronts distinct a.requests s.requests request_end s.rest (a.stream_is.requests_are, a.stream_is.fits) (good refusal s)
      (append_cancel_left request_magic (items_of a.requests ++ request_end) (items_of s.requests ++ s.rest) (sym a.stream_is.text ∙ items_there refusal s)))
    where
      at_end : s.rest ≡ request_end → ⊥
      at_end is = ended (length s.requests) (length s.front) stream s.rest (here refusal s) distinct one_missing r (length (reply_stream s.replies)) refusal s.decides is

      shorter : (more : List Request) → s.requests ≡ a.requests ++ more → request_end ≡ items_of more ++ s.rest → ⊥
      shorter [] is rest = at_end (sym rest)
      shorter (q ∷ more) is rest =
          no_end q (items_of more ++ s.rest) [] (all_at FitsRequest a.requests q more (subst (λ (l : List Request). All FitsRequest l) is (good refusal s).1))
          (sym (append_assoc (request_bytes q) (items_of more) s.rest) ∙ sym rest ∙ sym (append-nil request_end))

      longer : (more : List Request) → a.requests ≡ s.requests ++ more → s.rest ≡ items_of more ++ request_end → ⊥
      longer [] is rest = at_end rest
      longer (q ∷ more) is rest =
          not_behind refusal s a.requests a.replies request_end a.stream_is.few (a.stream_is.requests_are, a.stream_is.fits) a.replies_are
          (subst (λ (l : List ℕ). length l ≤ MESSAGE_LIMIT) a.is a.fits) q more is rest

  same_served : (a b : List ℕ) → IsServed r stream a → IsServed r stream b → a ≡ b
  same_served a b x y = ⊎_elim
      (λ (on : GoesBehind x.requests y.requests request_end request_end). by x y a b on.more on.longer on.rest)
      (λ (on : GoesBehind y.requests x.requests request_end request_end). sym (by y x b a on.more on.longer on.rest))
      (two_fronts distinct x.requests y.requests request_end request_end (x.stream_is.requests_are, x.stream_is.fits) (y.stream_is.requests_are, y.stream_is.fits)
      (append_cancel_left request_magic (items_of x.requests ++ request_end) (items_of y.requests ++ request_end) (sym x.stream_is.text ∙ y.stream_is.text)))
    where
      by : {a b : List ℕ} (x : IsServed r stream a) (y : IsServed r stream b) (c d : List ℕ) → (more : List Request) → y.requests ≡ x.requests ++ more → request_end ≡ items_of more ++ request_end → a ≡ b
      by x y c d [] is rest =
          let same : y.requests ≡ x.requests = is ∙ append-nil x.requests in
          let replies = same_replies r one_missing x.requests x.replies y.replies x.replies_are (subst (λ (l : List Request). AreReplies r l y.replies) same y.replies_are) in
          x.is ∙ ap reply_stream replies ∙ sym y.is
      by x y c d (q ∷ more) is rest =
          absurd (no_end q (items_of more ++ request_end) [] (all_at FitsRequest x.requests q more (subst (λ (l : List Request). All FitsRequest l) is y.stream_is.fits))
          (sym (append_assoc (request_bytes q) (items_of more) request_end) ∙ sym rest ∙ sym (append-nil request_end)))

  same_stopped : (a b : Refusal) → IsStopped r stream a → IsStopped r stream b → a ≡ b
  same_stopped a b x y = ⊎_elim
      (λ (on : GoesBehind x.requests y.requests x.rest y.rest). by x y on.more on.longer on.rest)
      (λ (on : GoesBehind y.requests x.requests y.rest x.rest). sym (by y x on.more on.longer on.rest))
      (two_fronts distinct x.requests y.requests x.rest y.rest (good a x) (good b y)
      (append_cancel_left request_magic (items_of x.requests ++ x.rest) (items_of y.requests ++ y.rest) (sym (items_there a x) ∙ items_there b y)))
    where
      by : {a b : Refusal} (x : IsStopped r stream a) (y : IsStopped r stream b) (more : List Request) → y.requests ≡ x.requests ++ more → x.rest ≡ items_of more ++ y.rest → a ≡ b
      by {a} {b} x y [] is rest =
          let same : y.requests ≡ x.requests = is ∙ append-nil x.requests in
          let fronts : y.front ≡ x.front = y.answered.requests_are.text ∙ ap (λ (l : List Request). request_magic ++ items_of l) same ∙ sym x.answered.requests_are.text in
          let replies : y.replies ≡ x.replies =
          same_replies r one_missing x.requests y.replies x.replies (subst (λ (l : List Request). AreReplies r l y.replies) same y.answered.replies_are) x.answered.replies_are in
          let own : DecidesAt r (length x.requests) (length (reply_stream x.replies)) (length x.front) stream x.rest b =
          subst (λ (l : List ℕ). DecidesAt r (length x.requests) (length (reply_stream x.replies)) (length x.front) stream l b) (sym rest)
          (subst (λ (l : List ℕ). DecidesAt r (length x.requests) (length (reply_stream x.replies)) (length l) stream y.rest b) fronts
          (subst (λ (l : List ℕ). DecidesAt r (length x.requests) (length (reply_stream l)) (length y.front) stream y.rest b) replies
          (subst (λ (l : List Request). DecidesAt r (length l) (length (reply_stream y.replies)) (length y.front) stream y.rest b) same y.decides))) in
          same_decision (length x.requests) (length x.front) stream x.rest (here a x) distinct one_missing r (length (reply_stream x.replies)) a b x.decides own
      by {a} {b} x y (q ∷ more) is rest =
          absurd (not_behind a x y.requests y.replies y.rest y.answered.requests_are.few (good b y) y.answered.replies_are y.answered.fits q more is rest)

  pub one_outcome : (a b : Result (List ℕ) Refusal) → Replies r stream a → Replies r stream b → a ≡ b
  one_outcome (Ok a) (Ok b) x y = ap (λ (l : List ℕ). Ok l) (same_served a b x y)
  one_outcome (Ok a) (Err b) x (inl y) = absurd (lacks_no_magic (items_of x.requests ++ request_end) x.stream_is.text y.0 y.2)
  one_outcome (Ok a) (Err b) x (inr y) = absurd (served_or_stopped a b x y)
  one_outcome (Err a) (Ok b) (inl x) y = absurd (lacks_no_magic (items_of y.requests ++ request_end) y.stream_is.text x.0 x.2)
  one_outcome (Err a) (Ok b) (inr x) y = absurd (served_or_stopped b a y x)
  one_outcome (Err a) (Err b) (inl x) (inl y) = ap (λ (w : Refusal). Err w) (x.1 ∙ ap (λ (n : ℕ). Malformed n) (x.2.place_is ∙ sym y.2.place_is) ∙ sym y.1)
  one_outcome (Err a) (Err b) (inl x) (inr y) = absurd (lacks_no_magic (items_of y.requests ++ y.rest) (items_there b y) x.0 x.2)
  one_outcome (Err a) (Err b) (inr x) (inl y) = absurd (lacks_no_magic (items_of x.requests ++ x.rest) (items_there a x) y.0 y.2)
  one_outcome (Err a) (Err b) (inr x) (inr y) = ap (λ (w : Refusal). Err w) (same_stopped a b x y)
