-- The places of troves of one id, and lists in which no two have one id.
use Rattle.std.proofs.Common.{◌≡◌, ℕ, zero, suc, ◌+◌, ◌<◌, Bool, true, false, cond, List, [], ◌∷◌, ◌++◌, length, get_or, find, slice_get, Contains, IsTrue, ◌⊎◌, inl, inr, Some, None, refl, sym, ap, subst, ◌∙◌, true≢false, arith}
use Rattle.std.proofs.lemmas.Bool.{cases_lt}
use Rattle.std.proofs.lemmas.Option.{slice_get-get_or, get_or_from_slice_get, none-some, same_Some}
use Rattle.trove_stream.specs.trove-parts.declared.id.TroveId.{TroveId}
use Rattle.trove_stream.specs.trove-parts.Id.{IsTroveId}
use Rattle.trove_stream.specs.trove-parts.Order.{id_eq, id_equiv}
use Rattle.trove_stream.specs.declared.parts.TroveParts.{TroveParts}
use Rattle.repo_index.specs.Catalogue.{has_id, found, HasDistinctIds}
use Rattle.repo_index.specs.Places.{IsPlaceOf, HasIdAt}

-- ---- one place

-- two ids with the texts of a third one
same_texts : (x y id : TroveId) → id_eq x id ≡ true → id_eq y id ≡ true → id_eq x y ≡ true
same_texts x y id first second = sym (id_equiv.congr id x y (id_equiv.symm id x ∙ first)) ∙ (id_equiv.symm id y ∙ second)

pub one_place : (troves : List TroveParts) (id : TroveId) (i j : ℕ) → HasDistinctIds troves → HasIdAt troves id i → HasIdAt troves id j → i ≡ j
one_place troves id i j distinct first second =
    distinct i j first.trove second.trove first.stands second.stands (same_texts first.trove.id second.trove.id id first.has second.has)

-- an id has its own texts
pub texts_at : (troves : List TroveParts) (id : TroveId) (place : ℕ) → IsPlaceOf troves id place → HasIdAt troves id place
texts_at troves id place is =
    record { trove = is.trove; stands = is.stands; has = ap (λ (other : TroveId). id_eq other id) is.id_is ∙ id_equiv.refl id }

-- ids of the same texts are one id
pub id_at : ((a b : TroveId) → IsTroveId a → IsTroveId b → IsTrue (id_eq a b) → a ≡ b) → (troves : List TroveParts) (id : TroveId) (place : ℕ) (t : TroveParts) → HasIdAt troves id place → Some t ≡ slice_get troves place → IsTroveId t.id → IsTroveId id → IsPlaceOf troves id place
id_at one_text troves id place t at is valid id_valid =
    let same : at.trove ≡ t = same_Some at.trove t (sym at.stands ∙ sym is) in
    record { trove = t; stands = sym is; id_is = one_text t.id id valid id_valid (subst (λ (u : TroveParts). id_eq u.id id ≡ true) same at.has) }

-- ---- what is found is what stands at the place

module _ {A : Type 0} (test : A → Bool) where
  found_later : (y x : A) (xs : List A) (i : ℕ) → find test xs ≡ Some x → ((j : ℕ) (z : A) → slice_get (y ∷ xs) j ≡ Some z → test z ≡ true → j ≡ suc i) → (b : Bool) → test y ≡ b → cond b (Some y) (find test xs) ≡ Some x
  found_later y x xs i rest only true is = let first : 0 ≡ suc i = only 0 y refl is in absurd (omega arith)
  found_later y x xs i rest only false is = rest

  pub found_at : (xs : List A) (i : ℕ) (x : A) → slice_get xs i ≡ Some x → test x ≡ true → ((j : ℕ) (z : A) → slice_get xs j ≡ Some z → test z ≡ true → j ≡ i) → find test xs ≡ Some x
  found_at [] i x at passes only = absurd (none-some x at)
  found_at (y ∷ xs) zero x at passes only =
      let same = same_Some y x at in ap (λ (b : Bool). cond b (Some y) (find test xs)) (ap test same ∙ passes) ∙ ap (λ (z : A). Some z) same
  found_at (y ∷ xs) (suc i) x at passes only =
      found_later y x xs i (found_at xs i x at passes (λ j z there is. (let next : suc j ≡ suc i = only (suc j) z there is in omega arith))) only (test y) refl

  not_found : (y : A) (xs : List A) → find test xs ≡ None → (test y ≡ true → ⊥) → (b : Bool) → test y ≡ b → cond b (Some y) (find test xs) ≡ None
  not_found y xs rest never true is = absurd (never is)
  not_found y xs rest never false is = rest

  pub found_nowhere : (xs : List A) → ((j : ℕ) (z : A) → slice_get xs j ≡ Some z → test z ≡ true → ⊥) → find test xs ≡ None
  found_nowhere [] never = refl
  found_nowhere (y ∷ xs) never = not_found y xs (found_nowhere xs (λ j z. never (suc j) z)) (never 0 y refl) (test y) refl

pub found_at_place : (troves : List TroveParts) (id : TroveId) (place : ℕ) → HasDistinctIds troves → HasIdAt troves id place → found id troves ≡ slice_get troves place
found_at_place troves id place distinct at =
    found_at (has_id id) troves place at.trove at.stands at.has (λ j t there is. one_place troves id j place distinct (record { trove = t; stands = there; has = is }) at) ∙ sym at.stands

pub found_at_none : (troves : List TroveParts) (id : TroveId) → ((place : ℕ) → HasIdAt troves id place → ⊥) → found id troves ≡ None
found_at_none troves id never = found_nowhere (has_id id) troves (λ j t there is. never j (record { trove = t; stands = there; has = is }))

-- ---- distinct ids

-- an item of a longer list is one of the shorter one, or the last
pub pushed_at : (troves : List TroveParts) (t x : TroveParts) (i : ℕ) → slice_get (troves ++ t ∷ []) i ≡ Some x → (slice_get troves i ≡ Some x) ⊎ ((i ≡ length troves) × (t ≡ x))
pushed_at [] t x zero at = inr (refl, same_Some t x at)
pushed_at [] t x (suc i) at = absurd (none-some x at)
pushed_at (y ∷ troves) t x zero at = inl at
pushed_at (y ∷ troves) t x (suc i) at =
    elim (pushed_at troves t x i at) [ inl h ↦ inl h | inr h ↦ inr (omega (arith, h.0), h.1) ]

none_has_one : (test : TroveParts → Bool) (y : TroveParts) (troves : List TroveParts) (b : Bool) → test y ≡ b
    → (find test troves ≡ None → (i : ℕ) (x : TroveParts) → slice_get troves i ≡ Some x → test x ≡ true → ⊥)
    → cond b (Some y) (find test troves) ≡ None → (i : ℕ) (x : TroveParts) → slice_get (y ∷ troves) i ≡ Some x → test x ≡ true → ⊥
none_has_one test y troves true is rest none i x at passes = none-some y (sym none)
none_has_one test y troves false is rest none zero x at passes = true≢false (sym passes ∙ ap test (sym (same_Some y x at)) ∙ is)
none_has_one test y troves false is rest none (suc i) x at passes = rest none i x at passes

none_has : (test : TroveParts → Bool) (troves : List TroveParts) → find test troves ≡ None → (i : ℕ) (x : TroveParts) → slice_get troves i ≡ Some x → test x ≡ true → ⊥
none_has test [] none i x at passes = none-some x at
none_has test (y ∷ troves) none i x at passes = none_has_one test y troves (test y) refl (none_has test troves) none i x at passes

pub distinct_push : (troves : List TroveParts) (t : TroveParts) → HasDistinctIds troves → found t.id troves ≡ None → HasDistinctIds (troves ++ t ∷ [])
distinct_push troves t distinct none = λ i j x y at other same. by i j x y (pushed_at troves t x i at) (pushed_at troves t y j other) same
  where
    absent : (i : ℕ) (x : TroveParts) → slice_get troves i ≡ Some x → id_eq x.id t.id ≡ true → ⊥
    absent i x at same = none_has (has_id t.id) troves none i x at same

    by : (i j : ℕ) (x y : TroveParts) → (slice_get troves i ≡ Some x) ⊎ ((i ≡ length troves) × (t ≡ x)) → (slice_get troves j ≡ Some y) ⊎ ((j ≡ length troves) × (t ≡ y)) → id_eq x.id y.id ≡ true → i ≡ j
    by i j x y (inl at) (inl other) same = distinct i j x y at other same
    by i j x y (inl at) (inr last) same = absurd (absent i x at (ap (λ (u : TroveParts). id_eq x.id u.id) last.1 ∙ same))
    by i j x y (inr last) (inl other) same = absurd (absent j y other (id_equiv.symm y.id t.id ∙ ap (λ (u : TroveParts). id_eq u.id y.id) last.1 ∙ same))
    by i j x y (inr last) (inr end) same = last.0 ∙ sym end.0

-- ---- a search through places

pub not_yet : (P : ℕ → Type 0) (places : List ℕ) (i : ℕ) → ((k : ℕ) → k < i → P (get_or places k 0) → ⊥) → (P (get_or places i 0) → ⊥) → (k : ℕ) → k < i + 1 → P (get_or places k 0) → ⊥
not_yet P places i before here k below is = elim (cases_lt k i) [
  | inl earlier ↦ before k earlier is
  | inr later ↦ (let same : k ≡ i = omega (arith, below, later) in here (subst (λ (m : ℕ). P (get_or places m 0)) same is))
]

pub nowhere : (P : ℕ → Type 0) (places : List ℕ) → ((k : ℕ) → k < length places → P (get_or places k 0) → ⊥) → (place : ℕ) → Contains places place → P place → ⊥
nowhere P places none place among is =
    let read : get_or places among.0 0 ≡ place = get_or_from_slice_get places among.0 place 0 (slice_get-get_or places among.0 place among.1 ∙ ap (λ (m : ℕ). Some m) among.2) in
    none among.0 among.1 (subst P (sym read) is)
