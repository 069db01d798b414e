-- Bytes are the stream of one list of requests at most.
use Rattle.std.proofs.Common.{◌≡◌, ℕ, List, [], ◌∷◌, ◌++◌, All, refl, sym, ap, ◌∙◌, arith, append_assoc}
use Rattle.std.specs.List.{flat_map}
use Rattle.std.proofs.lemmas.List.{append_cancel_left}
use Rattle.std.proofs.lemmas.List.Elements.{All-head, All-tail}
use Rattle.cny_stream.specs.Item.{item_bytes}
use Rattle.cny_stream.specs.ItemLaws.{SameItem}
use Rattle.cny_stream.proofs.ItemLaws.{same_item}
use Rattle.change_set.specs.trove-parts.declared.id.TroveId.{TroveId}
use Rattle.change_set.specs.trove-parts.Id.{id_bytes, IsTroveId}
use Rattle.repo_mirror.specs.declared.request.Request.{Request}
use Rattle.repo_mirror.specs.declared.request.Request.TheVariants.{Named, Content, Missing}
use Rattle.repo_mirror.specs.Requests.{ids_bytes, request_bytes, request_end, request_magic, request_tag, request_value, FitsRequest, IsRequest, IsRequestStream}

-- no id's bytes begin those of another one
abbrev pub DistinctBytes : Type 0
DistinctBytes = (a b : TroveId) (x y : List ℕ) → IsTroveId a → IsTroveId b → id_bytes a ++ x ≡ id_bytes b ++ y → (a ≡ b) × (x ≡ y)

module _ (distinct : DistinctBytes) where
  one_ids : (a b : List TroveId) → All IsTroveId a → All IsTroveId b → ids_bytes a ≡ ids_bytes b → a ≡ b
  one_ids [] [] v w same = refl
  one_ids [] (y ∷ b) v w same = absurd (cc same)
  one_ids (x ∷ a) [] v w same = absurd (cc same)
  one_ids (x ∷ a) (y ∷ b) v w same =
      let both = distinct x y (ids_bytes a) (ids_bytes b) (All-head IsTroveId x a v) (All-head IsTroveId y b w) same in
      let rest = one_ids a b (All-tail IsTroveId x a v) (All-tail IsTroveId y b w) both.1 in
      λ i. both.0 i ∷ rest i

  one_request : (p q : Request) → IsRequest p → IsRequest q → request_tag p ≡ request_tag q → request_value p ≡ request_value q → p ≡ q
  one_request (Named a) (Named b) v w tags values = ap Named values
  one_request (Named a) (Content b) v w tags values = absurd (omega (arith, tags))
  one_request (Named a) (Missing b) v w tags values = absurd (omega (arith, tags))
  one_request (Content a) (Named b) v w tags values = absurd (omega (arith, tags))
  one_request (Content a) (Content b) v w tags values = ap Content values
  one_request (Content a) (Missing b) v w tags values = absurd (omega (arith, tags))
  one_request (Missing a) (Named b) v w tags values = absurd (omega (arith, tags))
  one_request (Missing a) (Content b) v w tags values = absurd (omega (arith, tags))
  one_request (Missing a) (Missing b) v w tags values = ap Missing (one_ids a b v.valid w.valid values)

  no_end : (p : Request) → request_tag p ≡ 0x7F → ⊥
  no_end (Named a) is = omega (arith, is)
  no_end (Content a) is = omega (arith, is)
  no_end (Missing a) is = omega (arith, is)

  abbrev items : List Request → List ℕ
  items requests = flat_map request_bytes requests ++ request_end

  -- the first item, and those behind it
  items_on : (p : Request) (requests : List Request) → items (p ∷ requests) ≡ item_bytes (request_tag p) (request_value p) ++ items requests
  items_on p requests = append_assoc (request_bytes p) (flat_map request_bytes requests) request_end

  one_list : (a b : List Request) → All IsRequest a → All IsRequest b → All FitsRequest a → All FitsRequest b → items a ≡ items b → a ≡ b
  one_list [] [] v w fv fw same = refl
  one_list [] (q ∷ b) v w fv fw same =
      let it : SameItem 0x7F (request_tag q) [] (request_value q) [] (items b) = same_item 0x7F (request_tag q) [] (request_value q) [] (items b) (omega arith) (All-head FitsRequest q b fw) (same ∙ items_on q b) in
      absurd (no_end q (sym it.tags))
  one_list (p ∷ a) [] v w fv fw same =
      let it : SameItem (request_tag p) 0x7F (request_value p) [] (items a) [] = same_item (request_tag p) 0x7F (request_value p) [] (items a) [] (All-head FitsRequest p a fv) (omega arith) (sym (items_on p a) ∙ same) in
      absurd (no_end p it.tags)
  one_list (p ∷ a) (q ∷ b) v w fv fw same =
      let it = same_item (request_tag p) (request_tag q) (request_value p) (request_value q) (items a) (items b) (All-head FitsRequest p a fv) (All-head FitsRequest q b fw) (sym (items_on p a) ∙ same ∙ items_on q b) in
      let first = one_request p q (All-head IsRequest p a v) (All-head IsRequest q b w) it.tags it.values in
      let rest = one_list a b (All-tail IsRequest p a v) (All-tail IsRequest q b w) (All-tail FitsRequest p a fv) (All-tail FitsRequest q b fw) it.rests in
      λ i. first i ∷ rest i

  pub one_stream : (a b : List Request) (bytes : List ℕ) → IsRequestStream a bytes → IsRequestStream b bytes → a ≡ b
  one_stream a b bytes is other = one_list a b is.requests_are other.requests_are is.fits other.fits (append_cancel_left request_magic (items a) (items b) (sym is.text ∙ other.text))
