-- What a search among rising flags finds.
use Rattle.std.proofs.Common.{◌≡◌, ℕ, ◌+◌, ◌<◌, true, List, length, get_or, refl, sym, ap, ◌∙◌, arith, Result, Ok, Err, Ordering, Contains, inl, inr}
use Rattle.std.specs.Cmp.Lexicographic.{slice_cmp, nat_list_cmp_total}
use Rattle.std.specs.FinMap.{nat_cmp-IsAntisymmetric, slice_cmp-IsAntisymmetric}
use Rattle.std.specs.List.{HoldsAt}
use Rattle.std.specs.List.Sorted.{IsStrictlySortedBy, IsSortedBy, IsBinarySearchResult, IsSearchInRange}
use Rattle.std.specs.Ordering.{nat_cmp, is_lt}
use Rattle.std.specs.Result.{is_ok, IfOk}
use Rattle.std.specs.declared.cmp.Ordering.TheVariants.{Less, Equal, Greater}
use Rattle.std.proofs.lemmas.Bool.{cases_lt}
use Rattle.std.proofs.lemmas.Cmp.{tied_itself}
use Rattle.std.proofs.lemmas.List.Sorted.{searchable_from_sorted}
use Rattle.std.proofs.lemmas.Map.Keys.{Less-from_sorted}
use Rattle.cny_base.proofs.Orders.{not_less}

abbrev pub R : List ℕ → List ℕ → Ordering
R = slice_cmp nat_cmp

sorted_of_rising : (flags : List (List ℕ)) → IsStrictlySortedBy R flags → IsSortedBy (λ x y. is_lt (R x y)) flags
sorted_of_rising flags rising k d _ within =
    not_less (R (get_or flags (k + 1) d) (get_or flags k d)) (R (get_or flags k d) (get_or flags (k + 1) d))
    (nat_list_cmp_total.antisymm (get_or flags (k + 1) d) (get_or flags k d)) (Less-from_sorted R flags k (k + 1) d rising (omega arith) within)

pub search_found : (flags : List (List ℕ)) (flag : List ℕ) (r : Result ℕ ℕ) → IsStrictlySortedBy R flags → IsSearchInRange r (length flags)
    → IfOk r (HoldsAt (λ y. R y flag ≡ Equal) flags) → IsBinarySearchResult (λ y. R y flag) flags r
    → (is_ok r ≡ true → Contains flags flag) × (Contains flags flag → is_ok r ≡ true)
search_found flags flag (Ok i) rising within ok position =
    (λ _. (i, within, slice_cmp-IsAntisymmetric nat_cmp-IsAntisymmetric (get_or flags i flag) flag (ok flag)), λ _. refl)
search_found flags flag (Err i) rising within ok position = (λ e. absurd (cc), λ contains. absurd (apart contains.0 contains.1 contains.2))
  where
    own : R flag flag ≡ Equal
    own = tied_itself nat_list_cmp_total flag

    apart : (k : ℕ) → k < length flags → get_or flags k flag ≡ flag → ⊥
    apart k inside is =
        let point = position (searchable_from_sorted nat_list_cmp_total (λ y. y) flags flag (sorted_of_rising flags rising)) in
        elim (cases_lt k i) [
          | inl lt ↦ let less : R flag flag ≡ Less = ap (λ y. R y flag) (sym is) ∙ point.0 k flag (omega arith) lt in absurd (cc (own, less))
          | inr le ↦ let greater : R flag flag ≡ Greater = ap (λ y. R y flag) (sym is) ∙ point.1 k flag le inside in absurd (cc (own, greater))
        ]
