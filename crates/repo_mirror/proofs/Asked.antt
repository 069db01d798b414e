-- What is asked for: the ids of troves, sorted and each once, and their stream.
use Rattle.std.proofs.Common.{◌≡◌, ℕ, ◌+◌, ◌≤◌, Bool, true, false, cond, List, [], ◌∷◌, ◌++◌, length, map, All, Contains, Result, Ok, Err, refl, sym, ap, ◌∙◌, subst, arith, append-nil, length-append}
use Rattle.std.specs.Prelude.{nat_lt, IsTrue}
use Rattle.std.specs.Int.{w32, to_be_bytes}
use Rattle.std.proofs.lemmas.Bool.Decides.{nat_tests}
use Rattle.std.specs.List.{dedup}
use Rattle.std.specs.List.Retain.{IsFiltered, DiffersFromLast}
use Rattle.std.specs.List.Sorted.{IsPermutation, IsSorted}
use Rattle.std.proofs.lemmas.List.Elements.{All-cons, All-contains, All-nil}
use Rattle.std.proofs.lemmas.List.Filters.{dedup_is}
use Rattle.std.proofs.lemmas.List.Folds.{list_any-from_Any}
use Rattle.std.proofs.lemmas.List.Kept.{Any-dedup, Contains-from_dedup, IsStrictlySortedBy-dedup}
use Rattle.std.proofs.lemmas.List.Sorted.{Contains-permutation, IsPermutation-sym}
use Rattle.cny_stream.specs.Item.{item_bytes}
use Rattle.change_set.specs.cny-base.declared.limits.TheConstants.{MESSAGE_LIMIT}
use Rattle.change_set.specs.cny-base.declared.refusal.Refusal.{Refusal}
use Rattle.change_set.specs.cny-base.declared.refusal.Refusal.TheVariants.{TooLarge}
use Rattle.change_set.specs.cny-base.declared.refusal.What.TheVariants.{Message}
use Rattle.repo_mirror.specs.declared.request.Request.TheVariants.{Missing}
use Rattle.repo_mirror.specs.Requests.{ids_bytes, request_end, request_magic, FitsRequest, IsRequest}
use Rattle.change_set.specs.trove-parts.declared.id.TroveId.{TroveId}
use Rattle.change_set.specs.trove-parts.Id.{IsTroveId}
use Rattle.change_set.specs.trove-parts.Order.{id_cmp, id_eq, id_equiv, id_ties, id_total}
use Rattle.change_set.specs.trove-stream.declared.parts.TroveParts.{TroveParts}
use Rattle.repo_load.proofs.cny-base.Lists.{all_from, contains_map, from_map, one_passes}
use Rattle.repo_load.proofs.cny-base.Sorted.{same_members}
use Rattle.repo_mirror.specs.Asking.{asking, asking_bytes, AreIdsOf, AsksForOthers, IsAsked}

abbrev pub id_of : TroveParts → TroveId
id_of t = t.id

pub sorted_once : (troves : List TroveParts) (ids sorted kept : List TroveId) → ids ≡ map id_of troves → All IsTroveId ids → IsPermutation ids sorted → IsSorted id_cmp sorted
    → IsFiltered (DiffersFromLast id_eq) [] sorted kept → AreIdsOf troves kept
sorted_once troves ids sorted kept ids_are valid moved order filtered =
    let is : kept ≡ dedup id_eq sorted = dedup_is id_eq sorted kept filtered in
    subst (AreIdsOf troves) (sym is) (record {
      rising = record {
        valid = all_from IsTroveId (dedup id_eq sorted) (λ id h. All-contains IsTroveId ids id valid (back id h));
        rising = IsStrictlySortedBy-dedup id_total id_ties sorted order;
      };
      each = λ t h.
          list_any-from_Any (λ (id : TroveId). id_eq t.id id) (dedup id_eq sorted)
          (Any-dedup id_equiv sorted t.id (Contains-permutation ids sorted t.id moved (subst (λ (l : List TroveId). Contains l t.id) (sym ids_are) (contains_map id_of troves t h))));
      own = λ id h. from_map id_of troves id (subst (λ (l : List TroveId). Contains l id) ids_are (back id h));
    })
  where
    back : (id : TroveId) → Contains (dedup id_eq sorted) id → Contains ids id
    back id h = Contains-permutation sorted ids id (IsPermutation-sym ids sorted moved) (Contains-from_dedup id_eq sorted id h)

-- ---- one answer

-- ids that are taken for equal are one
abbrev pub OneId : Type 0
OneId = (a b : TroveId) → IsTroveId a → IsTroveId b → IsTrue (id_eq a b) → a ≡ b

module _ (one : OneId) (troves : List TroveParts) where
  among : (a b : List TroveId) → AreIdsOf troves a → AreIdsOf troves b → (id : TroveId) → Contains a id → Contains b id
  among a b is other id h =
      let t = is.own id h in
      let u = one_passes (λ (x : TroveId). id_eq t.0.id x) b (other.each t.0 t.1) in
      let mine : IsTroveId id = All-contains IsTroveId a id is.rising.valid h in
      let its : IsTroveId u.0 = All-contains IsTroveId b u.0 other.rising.valid u.1 in
      let same : id ≡ u.0 = one id u.0 mine its (ap (λ (x : TroveId). id_eq x u.0) (sym t.2) ∙ u.2) in
      subst (Contains b) (sym same) u.1

  one_list : (a b : List TroveId) → AreIdsOf troves a → AreIdsOf troves b → a ≡ b
  one_list a b is other = same_members id_cmp id_total a b is.rising.rising other.rising.rising (among a b is other) (among b a other is)

  pub one_answer : (a b : Result (List ℕ) Refusal) → IsAsked troves a → IsAsked troves b → a ≡ b
  one_answer a b is other = is.is ∙ ap asking (one_list is.ids other.ids is.are other.are) ∙ sym other.is

-- ---- the stream

item_long : (tag : ℕ) (value : List ℕ) → length (item_bytes tag value) ≡ 5 + length value
item_long tag value = omega (arith, length-append (tag ∷ to_be_bytes w32 (length value)) value)

pub asking_long : (ids : List TroveId) → length (asking_bytes ids) ≡ 18 + length (ids_bytes ids)
asking_long ids =
    let all = length-append request_magic (item_bytes 0x72 (ids_bytes ids) ++ request_end) in
    let body = length-append (item_bytes 0x72 (ids_bytes ids)) request_end in
    let item = item_long 0x72 (ids_bytes ids) in
    omega (arith, all, body, item)

-- an answer is the stream, which is no longer than a message may be
pub answered : (ids : List TroveId) (bytes : List ℕ) → Ok bytes ≡ asking ids → (bytes ≡ asking_bytes ids) × (length (asking_bytes ids) ≤ MESSAGE_LIMIT)
answered ids bytes is = by (nat_lt MESSAGE_LIMIT (length (asking_bytes ids))) refl is
  where
    up_to : (a b : ℕ) → nat_lt a b ≡ false → b ≤ a
    up_to a b h = grind (arith, nat_tests)

    by : (b : Bool) → nat_lt MESSAGE_LIMIT (length (asking_bytes ids)) ≡ b → Ok bytes ≡ cond b (Err (TooLarge Message (length (asking_bytes ids)))) (Ok (asking_bytes ids)) → (bytes ≡ asking_bytes ids) × (length (asking_bytes ids) ≤ MESSAGE_LIMIT)
    by true over same = absurd (cc same)
    by false fits same = (cc same, up_to MESSAGE_LIMIT (length (asking_bytes ids)) fits)

pub asks_for_others : (troves : List TroveParts) (bytes : List ℕ) → IsAsked troves (Ok bytes) → AsksForOthers troves bytes
asks_for_others troves bytes it =
    let value = ids_bytes it.ids in
    let is = answered it.ids bytes it.is in
    record {
      ids = it.ids;
      are = it.are;
      stream = record {
        few = omega arith;
        requests_are = All-cons IsRequest (Missing it.ids) [] it.are.rising (All-nil IsRequest);
        fits = All-cons FitsRequest (Missing it.ids) [] (omega (arith, is.1, asking_long it.ids)) (All-nil FitsRequest);
        text = is.0 ∙ ap (λ (l : List ℕ). request_magic ++ (l ++ request_end)) (sym (append-nil (item_bytes 0x72 value)));
      };
    }
