-- A request has one item and one reply.
use Rattle.std.proofs.Common.{◌≡◌, ℕ, ◌+◌, List, [], ◌∷◌, ◌++◌, length, All, Contains, Option, Some, Result, Ok, Err, refl, sym, ap, ◌∙◌, subst, arith, append_assoc, length-append}
use Rattle.std.specs.Cmp.{IsTotalOrder}
use Rattle.std.specs.Cmp.Lexicographic.{nat_list_cmp_total}
use Rattle.std.specs.Int.{w16, w32, to_be_bytes}
use Rattle.std.proofs.lemmas.Cmp.{on_total}
use Rattle.std.proofs.lemmas.List.Elements.{All-contains, All-head, All-tail}
use Rattle.cny_stream.specs.Item.{item_bytes}
use Rattle.cny_stream.proofs.ItemLaws.{same_item}
use Rattle.repo_load.specs.cny-base.StrField.{str}
use Rattle.repo_load.specs.cny-base.declared.refusal.Refusal.{Refusal}
use Rattle.repo_load.specs.trove-parts.Id.{id_bytes, IsTroveId}
use Rattle.repo_load.specs.trove-parts.Order.{flavor_of, version_of}
use Rattle.repo_load.specs.trove-parts.declared.id.TroveId.{TroveId}
use Rattle.repo_load.specs.trove-stream.declared.parts.TroveParts.{TroveParts}
use Rattle.repo_load.proofs.cny-base.Lists.{contains_map, from_map}
use Rattle.repo_load.proofs.cny-base.Sorted.{same_members}
use Rattle.repo_load.proofs.Holding.{some_bytes as same_bytes}
use Rattle.repo_load.specs.State.{Commit, RepositoryState}
use Rattle.repository.specs.change-set.ChangeSet.{change_bytes, content_cmp}
use Rattle.repository.specs.change-set.declared.change.Carried.{Carried}
use Rattle.repository.specs.change-set.declared.change.ChangeSet.{ChangeSet}
use Rattle.repo_mirror.specs.Requests.{ids_bytes, request_bytes, request_tag, request_value, FitsRequest, IsRequest}
use Rattle.repo_mirror.specs.declared.request.Request.{Request}
use Rattle.repo_mirror.specs.declared.request.Request.TheVariants.{Named, Content, Missing}
use Rattle.repo_mirror.specs.Absolute.{name_of, IsAbsoluteSet}
use Rattle.repo_mirror.specs.Lengths.{set_length}
use Rattle.repo_mirror.specs.Missing.{IsMissing}
use Rattle.repo_serve.specs.Reply.{IsMissingReply, IsReplyLength, IsReplyTo}
use Rattle.repo_serve.specs.Replies.{AreReplies}

-- the laws that are called upon
abbrev pub DistinctIds : Type 0
DistinctIds = (a b : TroveId) (x y : List ℕ) → IsTroveId a → IsTroveId b → id_bytes a ++ x ≡ id_bytes b ++ y → (a ≡ b) × (x ≡ y)

abbrev pub OneMissing : Type 0
OneMissing = (ids : List TroveId) (commits : List Commit) (a b : Result (List TroveParts) Refusal) → IsMissing ids commits a → IsMissing ids commits b → a ≡ b

abbrev pub SetLength : Type 0
SetLength = (troves : List TroveParts) (set : ChangeSet) → IsAbsoluteSet troves set → length (change_bytes set) ≡ set_length troves

-- ---- requests

id_long : (id : TroveId) (rest : List ℕ) → id_bytes id ++ rest ≡ [] → ⊥
id_long id rest is =
    let long = ap (λ (l : List ℕ). length l) is in
    omega (arith, long, length-append (id_bytes id) rest, length-append (str id.name) (str (version_of id) ++ str (flavor_of id)), length-append (to_be_bytes w16 (length id.name)) id.name)

module _ (distinct : DistinctIds) where
  same_ids : (a b : List TroveId) → All IsTroveId a → All IsTroveId b → ids_bytes a ≡ ids_bytes b → a ≡ b
  same_ids [] [] valid other is = refl
  same_ids [] (id ∷ b) valid other is = absurd (id_long id (ids_bytes b) (sym is))
  same_ids (id ∷ a) [] valid other is = absurd (id_long id (ids_bytes a) is)
  same_ids (id ∷ a) (also ∷ b) valid other is =
      let first = distinct id also (ids_bytes a) (ids_bytes b) (All-head IsTroveId id a valid) (All-head IsTroveId also b other) is in
      let rest = same_ids a b (All-tail IsTroveId id a valid) (All-tail IsTroveId also b other) first.1 in
      λ i. first.0 i ∷ rest i

  by_value : (q p : Request) → request_tag q ≡ request_tag p → request_value q ≡ request_value p → IsRequest q → IsRequest p → q ≡ p
  by_value (Named a) (Named b) tags is valid other = ap (λ (n : List ℕ). Named n) is
  by_value (Named a) (Content b) tags is valid other = absurd (omega arith)
  by_value (Named a) (Missing b) tags is valid other = absurd (omega arith)
  by_value (Content a) (Named b) tags is valid other = absurd (omega arith)
  by_value (Content a) (Content b) tags is valid other = ap (λ (n : List ℕ). Content n) is
  by_value (Content a) (Missing b) tags is valid other = absurd (omega arith)
  by_value (Missing a) (Named b) tags is valid other = absurd (omega arith)
  by_value (Missing a) (Content b) tags is valid other = absurd (omega arith)
  by_value (Missing a) (Missing b) tags is valid other = ap (λ (l : List TroveId). Missing l) (same_ids a b valid.valid other.valid is)

  -- one request begins the bytes
  pub same_request : (q p : Request) (x y : List ℕ) → IsRequest q → IsRequest p → FitsRequest q → FitsRequest p → request_bytes q ++ x ≡ request_bytes p ++ y → (q ≡ p) × (x ≡ y)
  same_request q p x y valid other fits fit is =
      let same = same_item (request_tag q) (request_tag p) (request_value q) (request_value p) x y fits fit is in
      (by_value q p same.tags same.values valid other, same.rests)

-- ---- sets

content_total : IsTotalOrder content_cmp
content_total = on_total (λ (c : Carried). c.name) nat_list_cmp_total

module _ (held : List ℕ → Option (List ℕ)) (troves : List TroveParts) where
  abbrev AreHeld : ChangeSet → Type 0
  AreHeld set = All (λ (c : Carried). held c.name ≡ Some c.bytes) set.contents

  in_other : (a b : ChangeSet) → IsAbsoluteSet troves a → IsAbsoluteSet troves b → AreHeld a → AreHeld b → (c : Carried) → Contains a.contents c → Contains b.contents c
  in_other a b is also stands stands' c among =
      let found = from_map name_of b.contents c.name ((also.each c.name).1 ((is.each c.name).0 (contains_map name_of a.contents c among))) in
      let d : Carried = found.0 in
      let own : held c.name ≡ Some c.bytes = All-contains (λ (e : Carried). held e.name ≡ Some e.bytes) a.contents c stands among in
      let its : held d.name ≡ Some d.bytes = All-contains (λ (e : Carried). held e.name ≡ Some e.bytes) b.contents d stands' found.1 in
      let bytes : d.bytes ≡ c.bytes = same_bytes d.bytes c.bytes (held c.name) (ap held (sym found.2) ∙ its) own in
      let same : d ≡ c = λ i. record { name = found.2 i; bytes = bytes i } in
      subst (Contains b.contents) same found.1

  pub one_set : (a b : ChangeSet) → IsAbsoluteSet troves a → IsAbsoluteSet troves b → AreHeld a → AreHeld b → a ≡ b
  one_set a b is also stands stands' =
      let parts : a.parts ≡ b.parts = is.parts ∙ sym also.parts in
      let contents = same_members content_cmp content_total a.contents b.contents is.rising also.rising (in_other a b is also stands stands') (in_other b a also is stands' stands) in
      λ i. record { parts = parts i; contents = contents i }

-- ---- replies

module _ (r : RepositoryState) (one_missing : OneMissing) where
  same_troves : (ids : List TroveId) (a b : List TroveParts) → IsMissing ids r.commits (Ok a) → IsMissing ids r.commits (Ok b) → a ≡ b
  same_troves ids a b x y = let same = one_missing ids r.commits (Ok a) (Ok b) x y in cc same

  same_missing : (ids : List TroveId) (a b : List ℕ) → IsMissingReply r ids a → IsMissingReply r ids b → a ≡ b
  same_missing ids a b x y =
      let troves : x.troves ≡ y.troves = same_troves ids x.troves y.troves x.missing y.missing in
      let set = one_set r.contents y.troves x.set y.set (subst (λ (l : List TroveParts). IsAbsoluteSet l x.set) troves x.sent) y.sent x.held y.held in
      x.is ∙ ap (λ (s : ChangeSet). item_bytes 0x84 (change_bytes s)) set ∙ sym y.is

  -- one reply
  pub one_reply : (q : Request) (a b : List ℕ) → IsReplyTo r q (Ok a) → IsReplyTo r q (Ok b) → a ≡ b
  one_reply (Named name) a b x y = x ∙ sym y
  one_reply (Content name) a b x y = x ∙ sym y
  one_reply (Missing ids) a b x y = same_missing ids a b x y

  -- or none
  pub reply_or_none : (q : Request) (a : List ℕ) (refusal : Refusal) → IsReplyTo r q (Ok a) → IsReplyTo r q (Err refusal) → ⊥
  reply_or_none (Named name) a refusal x y = y
  reply_or_none (Content name) a refusal x y = y
  reply_or_none (Missing ids) a refusal x y = let same = one_missing ids r.commits (Ok x.troves) (Err refusal) x.missing y in absurd (cc same)

  pub one_refusal : (q : Request) (a b : Refusal) → IsReplyTo r q (Err a) → IsReplyTo r q (Err b) → a ≡ b
  one_refusal (Named name) a b x y = absurd x
  one_refusal (Content name) a b x y = absurd x
  one_refusal (Missing ids) a b x y = let same = one_missing ids r.commits (Err a) (Err b) x y in cc same

  -- ---- lengths

  pub one_length : (q : Request) (m n : ℕ) → IsReplyLength r q m → IsReplyLength r q n → m ≡ n
  one_length (Named name) m n x y = x ∙ sym y
  one_length (Content name) m n x y = x ∙ sym y
  one_length (Missing ids) m n x y = let troves = same_troves ids x.0 y.0 x.1 y.1 in x.2 ∙ ap (λ (l : List TroveParts). 5 + set_length l) troves ∙ sym y.2

  pub length_or_none : (q : Request) (n : ℕ) (refusal : Refusal) → IsReplyLength r q n → IsReplyTo r q (Err refusal) → ⊥
  length_or_none (Named name) n refusal x y = y
  length_or_none (Content name) n refusal x y = y
  length_or_none (Missing ids) n refusal x y = let same = one_missing ids r.commits (Ok x.0) (Err refusal) x.1 y in absurd (cc same)

  module _ (set_long : SetLength) where
    -- a reply has that length
    pub reply_long : (q : Request) (a : List ℕ) (n : ℕ) → IsReplyTo r q (Ok a) → IsReplyLength r q n → n ≡ length a
    reply_long (Named name) a n x y = y ∙ ap (λ (l : List ℕ). length l) (sym x)
    reply_long (Content name) a n x y = y ∙ ap (λ (l : List ℕ). length l) (sym x)
    reply_long (Missing ids) a n x y =
        let troves : y.0 ≡ x.troves = same_troves ids y.0 x.troves y.1 x.missing in
        let own = set_long x.troves x.set x.sent in
        let long = ap (λ (l : List ℕ). length l) x.is in
        let same = ap (λ (l : List TroveParts). set_length l) troves in
        omega (arith, y.2, same, own, long, length-append (0x84 ∷ to_be_bytes w32 (length (change_bytes x.set))) (change_bytes x.set))

  -- ---- some replies

  pub same_replies : (requests : List Request) (a b : List ℕ) → AreReplies r requests a → AreReplies r requests b → a ≡ b
  same_replies [] a b x y = x ∙ sym y
  same_replies (q ∷ requests) a b x y =
      let first = one_reply q x.0 y.0 x.2 y.2 in
      let rest = same_replies requests x.1 y.1 x.3 y.3 in
      x.4 ∙ ap (λ (l : List ℕ). l ++ x.1) first ∙ ap (λ (l : List ℕ). y.0 ++ l) rest ∙ sym y.4

  -- those of the first requests, that of the next one, and the others
  pub record SplitReplies (front : List Request) (q : Request) (bytes : List ℕ) : Type 0 where
    pub before : List ℕ
    pub reply : List ℕ
    pub after : List ℕ
    pub before_are : AreReplies r front before
    pub reply_is : IsReplyTo r q (Ok reply)
    pub is : bytes ≡ before ++ (reply ++ after)

  pub split_replies : (front : List Request) (q : Request) (behind : List Request) (bytes : List ℕ) → AreReplies r (front ++ q ∷ behind) bytes → SplitReplies front q bytes
  split_replies [] q behind bytes are = record { before = []; reply = are.0; after = are.1; before_are = refl; reply_is = are.2; is = are.4 }
  split_replies (p ∷ front) q behind bytes are =
      let rest = split_replies front q behind are.1 are.3 in
      record {
        before = are.0 ++ rest.before;
        reply = rest.reply;
        after = rest.after;
        before_are = (are.0, rest.before, are.2, rest.before_are, refl);
        reply_is = rest.reply_is;
        is = are.4 ∙ ap (λ (l : List ℕ). are.0 ++ l) rest.is ∙ sym (append_assoc are.0 rest.before (rest.reply ++ rest.after));
      }
