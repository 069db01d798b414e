-- What a binary search by path finds in items whose paths strictly rise.
use Rattle.std.proofs.Common.{◌≡◌, ℕ, zero, suc, ◌<◌, Bool, true, false, ◌||◌, List, [], ◌∷◌, length, get_or, Option, Some, None, Result, Ok, Err, IfSome, IfNone, is_some, refl, sym, ◌∙◌, ap, subst, arith, add-one, inl, inr}
use Rattle.std.specs.List.{HoldsAt}
use Rattle.std.specs.List.Sorted.{IsBinarySearchResult, IsSearchInRange, IsSortedBy}
use Rattle.std.specs.Result.{result_ok}
use Rattle.std.specs.declared.cmp.Ordering.{Ordering}
use Rattle.std.specs.declared.cmp.Ordering.TheVariants.{Less, Equal, Greater}
use Rattle.std.specs.Ordering.{nat_cmp, is_lt, is_eq}
use Rattle.std.specs.Cmp.Lexicographic.{slice_cmp, nat_list_cmp_total}
use Rattle.std.proofs.lemmas.Bool.{cases_lt}
use Rattle.std.proofs.lemmas.List.Sorted.{searchable_from_sorted}
use Rattle.tree_disk.specs.Tree.{Name, same_name}
use Rattle.tree_disk.specs.Laws.{same_means}
use Rattle.tree_disk.proofs.Laws.{same_itself}
use Rattle.tree_disk.proofs.cny-base.Bools.{or_left, or_right}
use Rattle.tree_disk.proofs.cny-base.Orders.{not_less as turned}

-- how the path of an item compares with the one that is looked for
abbrev pub against : {X : Type 0} → (X → Name) → Name → X → Ordering
against path_of path x = slice_cmp nat_cmp (path_of x) path

-- the path of each item comes before that of the next
abbrev pub RiseBy : {X : Type 0} → (X → Name) → List X → Type 0
RiseBy {X} path_of xs = (k : ℕ) (d : X) → suc k < length xs → slice_cmp nat_cmp (path_of (get_or xs k d)) (path_of (get_or xs (suc k) d)) ≡ Less

pub equal_paths : (p q : Name) → slice_cmp nat_cmp p q ≡ Equal → p ≡ q
equal_paths p q e = same_means p q (ap is_eq e)

-- of items by their paths, and the test whether one of them is at a path
module _ {X : Type 0} (path_of : X → Name) (has : List X → Name → Bool) (none : (path : Name) → has [] path ≡ false) (more : (x : X) (xs : List X) (path : Name) → has (x ∷ xs) path ≡ (same_name path (path_of x) || has xs path)) where
  sorted : (xs : List X) → RiseBy path_of xs → IsSortedBy (λ a b. is_lt (slice_cmp nat_cmp (path_of a) (path_of b))) xs
  sorted xs rise = λ k d low high.
      rw add-one (turned _ _ (nat_list_cmp_total.antisymm (path_of (get_or xs (suc k) d)) (path_of (get_or xs k d))) (rise k d (omega arith)))

  none_at : (xs : List X) (path : Name) → ((k : ℕ) (d : X) → k < length xs → slice_cmp nat_cmp (path_of (get_or xs k d)) path ≡ Equal → ⊥) → has xs path ≡ false
  none_at [] path other = none path
  none_at (x ∷ xs) path other =
      more x xs path
      ∙ both (same_name path (path_of x)) (has xs path)
      (λ same. other 0 x (omega arith) (ap (λ (q : Name). slice_cmp nat_cmp q path) (sym (same_means path (path_of x) same)) ∙ equal_itself path))
      (none_at xs path (λ k d lt. other (suc k) d (omega arith)))
    where
      both : (a b : Bool) → (a ≡ true → ⊥) → b ≡ false → (a || b) ≡ false
      both true b un e = absurd (un refl)
      both false b un e = e

      equal_from : (o : Ordering) → is_eq o ≡ true → o ≡ Equal
      equal_from Less h = absurd (cc h)
      equal_from Equal h = refl
      equal_from Greater h = absurd (cc h)

      equal_itself : (q : Name) → slice_cmp nat_cmp q q ≡ Equal
      equal_itself q = equal_from (slice_cmp nat_cmp q q) (same_itself q)

  some_at : (xs : List X) (path : Name) (k : ℕ) → k < length xs → HoldsAt (λ x. path_of x ≡ path) xs k → has xs path ≡ true
  some_at [] path k lt here = absurd (omega arith)
  some_at (x ∷ xs) path zero lt here = more x xs path ∙ or_left (same_name path (path_of x)) (has xs path) (ap (same_name path) (here x) ∙ same_itself path)
  some_at (x ∷ xs) path (suc k) lt here = more x xs path ∙ or_right (same_name path (path_of x)) (has xs path) (some_at xs path k (omega arith) here)

  -- the answer of the search

  pub place_some : (xs : List X) (path : Name) (r : Result ℕ ℕ) (o : Option ℕ) → o ≡ result_ok r → IsSearchInRange r (length xs) → IsBinarySearchResult (against path_of path) xs r
      → IfSome o (λ place. (place < length xs) × HoldsAt (λ x. path_of x ≡ path) xs place)
  place_some xs path (Ok place) o is range found = subst (λ o. IfSome o (λ place. (place < length xs) × HoldsAt (λ x. path_of x ≡ path) xs place)) (sym is) (range, λ d. equal_paths (path_of (get_or xs place d)) path (found d))
  place_some xs path (Err place) o is range found = subst (λ o. IfSome o (λ place. (place < length xs) × HoldsAt (λ x. path_of x ≡ path) xs place)) (sym is) tt

  pub place_none : (xs : List X) (path : Name) (r : Result ℕ ℕ) (o : Option ℕ) → o ≡ result_ok r → RiseBy path_of xs → IsBinarySearchResult (against path_of path) xs r → IfNone o (has xs path ≡ false)
  place_none xs path (Ok place) o is rise found = subst (λ o. IfNone o (has xs path ≡ false)) (sym is) tt
  place_none xs path (Err place) o is rise found = subst (λ o. IfNone o (has xs path ≡ false)) (sym is) (none_at xs path other)
    where
      other : (k : ℕ) (d : X) → k < length xs → slice_cmp nat_cmp (path_of (get_or xs k d)) path ≡ Equal → ⊥
      other k d lt equal =
          let point = found (searchable_from_sorted nat_list_cmp_total path_of xs path (sorted xs rise)) in
          elim (cases_lt k place) [
            | inl before ↦ cc (equal, point.0 k d (omega arith) before)
            | inr behind ↦ cc (equal, point.1 k d behind lt)
          ]

  pub is_found : (xs : List X) (path : Name) (o : Option ℕ) (b : Bool) → IfSome o (λ place. (place < length xs) × HoldsAt (λ x. path_of x ≡ path) xs place) → IfNone o (has xs path ≡ false) → b ≡ is_some o → b ≡ has xs path
  is_found xs path None b some absent is = is ∙ sym absent
  is_found xs path (Some place) b some absent is = is ∙ sym (some_at xs path place some.0 some.1)
