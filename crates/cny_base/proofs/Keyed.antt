-- Shared lemmas: keyed.
use Rattle.std.proofs.Common.{Bool, List, Ordering, ℕ, Contains, add-one, ap, arith, false, get_or, inl, inr, suc, ◌∙◌, ◌≡◌}
use Rattle.std.specs.Cmp.Lexicographic.{slice_cmp, nat_list_cmp_total}
use Rattle.std.specs.Ordering.{nat_cmp, is_lt, ordering_index, ordering_reverse}
use Rattle.std.specs.Str.{bytes_eq}
use Rattle.std.specs.declared.cmp.Ordering.TheVariants.{Equal, Greater, Less}
use Rattle.std.specs.List.Sorted.{IsNonDecreasingBy, IsPartitionPoint, IsSortedBy, IsStrictlySortedBy}
use Rattle.std.proofs.lemmas.Map.Keys.{Less-from_sorted}
use Rattle.std.proofs.lemmas.Bool.{cases_lt}
use Rattle.std.proofs.lemmas.List.Sorted.{searchable_from_sorted}
use Rattle.std.proofs.lemmas.Cmp.{tied_itself}

module _ {A : Type 0} (key : A → List ℕ) where
  abbrev pub by_key : A → A → Ordering
  by_key x y = slice_cmp nat_cmp (key x) (key y)

  abbrev pub against : List ℕ → A → Ordering
  against name x = slice_cmp nat_cmp (key x) name

  abbrev pub has_key : List ℕ → A → Bool
  has_key name x = bytes_eq (key x) name

module _ {A : Type 0} (key : A → List ℕ) where
  module _ (list : List A) (name : List ℕ) (rises : IsStrictlySortedBy (by_key key) list) where
    pub turned : (a b : Ordering) → a ≡ ordering_reverse b → b ≡ Less → is_lt a ≡ false
    turned a b e f = ap is_lt (e ∙ ap ordering_reverse f)

    pub in_order : IsSortedBy (λ a b. is_lt (slice_cmp nat_cmp (key a) (key b))) list
    in_order = λ k d low high.
        rw add-one (turned _ _ (nat_list_cmp_total.antisymm (key (get_or list (suc k) d)) (key (get_or list k d))) (Less-from_sorted (by_key key) list k (suc k) d rises (omega arith) (omega arith)))

    pub nowhere : (place : ℕ) → (IsNonDecreasingBy (λ y. ordering_index (against key name y)) list → IsPartitionPoint (λ y. against key name y ≡ Less) (λ y. against key name y ≡ Greater) list place) → (t : A) → Contains list t → key t ≡ name → ⊥
    nowhere place search' t h is =
        let point = search' (searchable_from_sorted nat_list_cmp_total key list name in_order) in
        let equal : (against key) name t ≡ Equal = ap (λ (p : List ℕ). slice_cmp nat_cmp p name) is ∙ tied_itself nat_list_cmp_total name in
        let at : (against key) name (get_or list h.0 t) ≡ Equal = ap (against key name) h.2 ∙ equal in
        elim (cases_lt h.0 place) [
          | inl before ↦ cc (at, point.0 h.0 t (omega arith) before)
          | inr behind ↦ cc (at, point.1 h.0 t behind h.1)
        ]
