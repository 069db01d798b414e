-- What a binary search finds in a list of ids that strictly rises.
use Rattle.std.proofs.Common.{◌≡◌, ℕ, ◌<◌, Bool, true, false, List, get_or, length, Contains, Ordering, suc, inl, inr, refl, sym, ap, ◌∙◌, arith, add-one}
use Rattle.std.specs.List.{list_any, HoldsAt}
use Rattle.std.specs.List.Sorted.{IsNonDecreasingBy, IsPartitionPoint, IsSortedBy, IsStrictlySortedBy}
use Rattle.std.specs.Ordering.{is_eq, is_lt, ordering_index, ordering_reverse}
use Rattle.std.specs.declared.cmp.Ordering.TheVariants.{Equal, Greater, Less}
use Rattle.std.proofs.lemmas.Bool.{cases_lt}
use Rattle.std.proofs.lemmas.List.Folds.{list_any_at}
use Rattle.std.proofs.lemmas.List.Sorted.{searchable_from_sorted}
use Rattle.std.proofs.lemmas.Map.Keys.{Less-from_sorted}
use Rattle.change_set.specs.trove-parts.declared.id.TroveId.{TroveId}
use Rattle.change_set.specs.trove-parts.Order.{id_cmp, id_eq, id_equiv, id_ties, id_total}
use Rattle.change_set.proofs.cny-base.Bools.{not_true}
use Rattle.change_set.proofs.cny-base.Lists.{one_passes}

module _ (ids : List TroveId) (rises : IsStrictlySortedBy id_cmp ids) (id : TroveId) where
  turned : (a b : Ordering) → a ≡ ordering_reverse b → b ≡ Less → is_lt a ≡ false
  turned a b e f = ap is_lt (e ∙ ap ordering_reverse f)

  in_order : IsSortedBy (λ a b. is_lt (id_cmp a b)) ids
  in_order = λ k d low high.
      rw add-one (turned _ _ (id_total.antisymm (get_or ids (suc k) d) (get_or ids k d)) (Less-from_sorted id_cmp ids k (suc k) d rises (omega arith) (omega arith)))

  -- no id that is equal stands in it, where the search gives a place
  nowhere : (place : ℕ) → (IsNonDecreasingBy (λ y. ordering_index (id_cmp y id)) ids → IsPartitionPoint (λ y. id_cmp y id ≡ Less) (λ y. id_cmp y id ≡ Greater) ids place)
      → (t : TroveId) → Contains ids t → id_cmp t id ≡ Equal → ⊥
  nowhere place search' t h equal =
      let point = search' (searchable_from_sorted id_total (λ (x : TroveId). x) ids id in_order) in
      let at : id_cmp (get_or ids h.0 t) id ≡ Equal = ap (λ (x : TroveId). id_cmp x id) h.2 ∙ equal in
      elim (cases_lt h.0 place) [
        | inl before ↦ cc (at, point.0 h.0 t (omega arith) before)
        | inr behind ↦ cc (at, point.1 h.0 t behind h.1)
      ]

equal_of : (o : Ordering) → is_eq o ≡ true → o ≡ Equal
equal_of Less h = absurd (cc h)
equal_of Equal h = refl
equal_of Greater h = absurd (cc h)

-- an id is among others where one of them is equal
abbrev pub is_among : List TroveId → TroveId → Bool
is_among ids id = list_any (λ (other : TroveId). id_eq id other) ids

pub missed : (ids : List TroveId) (id : TroveId) (place : ℕ) → IsStrictlySortedBy id_cmp ids
    → (IsNonDecreasingBy (λ y. ordering_index (id_cmp y id)) ids → IsPartitionPoint (λ y. id_cmp y id ≡ Less) (λ y. id_cmp y id ≡ Greater) ids place)
    → is_among ids id ≡ false
missed ids id place rises point =
    not_true (is_among ids id) (λ is.
    let one = one_passes (λ (other : TroveId). id_eq id other) ids is in
    let turned : id_eq one.0 id ≡ true = id_equiv.symm one.0 id ∙ one.2 in
    nowhere ids rises id place point one.0 one.1 (equal_of (id_cmp one.0 id) (sym (id_ties one.0 id) ∙ turned)))

pub found : (ids : List TroveId) (id : TroveId) (place : ℕ) → place < length ids → HoldsAt (λ y. id_cmp y id ≡ Equal) ids place → is_among ids id ≡ true
found ids id place within at =
    let other = get_or ids place id in
    let same : id_eq id other ≡ true = sym (id_equiv.symm other id) ∙ id_ties other id ∙ ap is_eq (at id) in
    list_any_at (λ (other : TroveId). id_eq id other) ids place id within same
