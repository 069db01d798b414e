-- Two lists in strictly rising order that have the same elements are one.
use Rattle.std.proofs.Common.{◌≡◌, ◌+◌, Bool, true, false, List, [], ◌∷◌, get_or, refl, sym, ap, ◌∙◌, subst, arith, not, ◌&&◌, ◌||◌, Ordering}
use Rattle.std.specs.Cmp.{IsTotalOrder}
use Rattle.std.specs.FinMap.{IsAntisymmetric}
use Rattle.std.specs.List.{list_any, AllByRecursion, IsDistinct}
use Rattle.std.specs.List.Sorted.{IsStrictlySortedBy, IsPermutation, IsSorted}
use Rattle.std.specs.Ordering.{is_eq, is_lt, eq_by_cmp, ordering_reverse}
use Rattle.std.specs.declared.cmp.Ordering.TheVariants.{Less, Equal, Greater}
use Rattle.std.proofs.lemmas.Bool.{false≢true}
use Rattle.std.proofs.lemmas.Cmp.{tied_itself}
use Rattle.std.proofs.lemmas.List.Sorted.{list_any-IsPermutation}
use Rattle.std.proofs.lemmas.Map.Keys.{sorted_head, sorted_tail, sorted_from_all_adjacent, apart_from_distinct}

module _ {K : Type 0} {R : K → K → Ordering} (o : IsTotalOrder R) where
  -- one element beside those that are above it
  abbrev pub is_first : K → K → Bool
  is_first x y = is_eq (R x y)

  pub none_above : (x : K) (xs : List K) → AllByRecursion (λ y. R x y ≡ Less) xs → list_any (is_first x) xs ≡ false
  none_above x [] all = refl
  none_above x (y ∷ ys) all = ap (λ r. is_eq r || list_any (is_first x) ys) all.0 ∙ none_above x ys all.1

  -- what passes a test among the elements above x
  abbrev pub among_others : (K → Bool) → K → K → Bool
  among_others p x y = not (is_eq (R x y)) && p y

  pub others_pass : (p : K → Bool) (x : K) (xs : List K) → AllByRecursion (λ y. R x y ≡ Less) xs → list_any (among_others p x) xs ≡ list_any p xs
  others_pass p x [] all = refl
  others_pass p x (y ∷ ys) all = ap (λ r. (not (is_eq r) && p y) || list_any (among_others p x) ys) all.0 ∙ ap (λ b. p y || b) (others_pass p x ys all.1)

  pub itself_apart : (p : K → Bool) (x : K) (xs : List K) → AllByRecursion (λ y. R x y ≡ Less) xs → list_any (among_others p x) (x ∷ xs) ≡ list_any p xs
  itself_apart p x xs all = ap (λ r. (not (is_eq r) && p x) || list_any (among_others p x) xs) (tied_itself o x) ∙ others_pass p x xs all

  pub all_above : (x y : K) (ys : List K) → R x y ≡ Less → AllByRecursion (λ z. R y z ≡ Less) ys → AllByRecursion (λ z. R x z ≡ Less) ys
  all_above x y [] less all = tt
  all_above x y (z ∷ zs) less all = (o.trans x y z less all.0, all_above x y zs less all.1)

  pub first_found : (x : K) (xs : List K) → list_any (is_first x) (x ∷ xs) ≡ true
  first_found x xs = ap (λ r. is_eq r || list_any (is_first x) xs) (tied_itself o x)

  module _ (same : IsAntisymmetric R) where
    first_same : (x y : K) (xs ys : List K) → AllByRecursion (λ z. R x z ≡ Less) xs → AllByRecursion (λ z. R y z ≡ Less) ys
        → ((p : K → Bool) → list_any p (x ∷ xs) ≡ list_any p (y ∷ ys)) → x ≡ y
    first_same x y xs ys above_x above_y alike = by (R x y) refl
      where
        by : (r : Ordering) → R x y ≡ r → x ≡ y
        by Equal is = same x y is
        by Less is = absurd (false≢true (sym (none_above x (y ∷ ys) (is, all_above x y ys is above_y)) ∙ sym (alike (is_first x)) ∙ first_found x xs))
        by Greater is =
            let back : R y x ≡ Less = o.antisymm y x ∙ ap ordering_reverse is in
            absurd (false≢true (sym (none_above y (x ∷ xs) (back, all_above y x xs back above_x)) ∙ alike (is_first y) ∙ first_found y ys))

    pub same_sorted : (xs ys : List K) → IsStrictlySortedBy R xs → IsStrictlySortedBy R ys → ((p : K → Bool) → list_any p xs ≡ list_any p ys) → xs ≡ ys
    same_sorted [] [] sx sy alike = refl
    same_sorted [] (y ∷ ys) sx sy alike = absurd (false≢true (alike (λ _. true)))
    same_sorted (x ∷ xs) [] sx sy alike = absurd (false≢true (sym (alike (λ _. true))))
    same_sorted (x ∷ xs) (y ∷ ys) sx sy alike =
        let above_x = sorted_head R x xs sx in
        let above_y = sorted_head R y ys sy in
        let heads : x ≡ y = first_same x y xs ys above_x above_y alike in
        let above : AllByRecursion (λ z. R x z ≡ Less) ys = subst (λ (k : K). AllByRecursion (λ z. R k z ≡ Less) ys) (sym heads) above_y in
        let tails : (p : K → Bool) → list_any p xs ≡ list_any p ys =
        λ p. sym (itself_apart p x xs above_x) ∙ alike (among_others p x) ∙ ap (λ (k : K). list_any (among_others p x) (k ∷ ys)) (sym heads) ∙ itself_apart p x ys above in
        ap (λ (k : K). k ∷ xs) heads ∙ ap (λ l. y ∷ l) (same_sorted xs ys (sorted_tail R x xs sx) (sorted_tail R y ys sy) tails)

    -- two rising orders of one list are one
    pub one_order : (zs xs ys : List K) → IsStrictlySortedBy R xs → IsStrictlySortedBy R ys → IsPermutation xs zs → IsPermutation ys zs → xs ≡ ys
    one_order zs xs ys sx sy px py = same_sorted xs ys sx sy (λ p. list_any-IsPermutation p xs zs px ∙ sym (list_any-IsPermutation p ys zs py))

  -- a sorted list whose elements differ rises
  pub rising_from_distinct : (xs : List K) (d : K) → IsSorted R xs → IsDistinct (eq_by_cmp R) xs → IsStrictlySortedBy R xs
  rising_from_distinct xs d sorted apart =
      sorted_from_all_adjacent o xs d (λ k within. less (R (get_or xs k d) (get_or xs (k + 1) d)) (R (get_or xs (k + 1) d) (get_or xs k d)) (o.antisymm (get_or xs k d) (get_or xs (k + 1) d))
      (apart_from_distinct (eq_by_cmp R) xs k (k + 1) d apart (omega arith) within) (sorted k d (omega arith) within))
    where
      less : (r s : Ordering) → r ≡ ordering_reverse s → is_eq r ≡ false → is_lt s ≡ false → r ≡ Less
      less Less s back other not_less = refl
      less Equal s back other not_less = absurd (cc)
      less Greater Less back other not_less = absurd (cc)
      less Greater Equal back other not_less = absurd (cc)
      less Greater Greater back other not_less = absurd (cc)
