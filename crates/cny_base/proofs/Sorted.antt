-- Lists that rise, and have the same elements.
use Rattle.cny_base.proofs.Lists.{contains_cases, contains_first, contains_rest, nothing_in}
use Rattle.std.proofs.Common.{Contains, List, [], ap, refl, sym, ⊎_elim, ◌∙◌, ◌∷◌, ◌≡◌}
use Rattle.std.proofs.lemmas.Cmp.{tied_itself}
use Rattle.std.proofs.lemmas.List.Elements.{All-contains, All-from_recursion}
use Rattle.std.proofs.lemmas.Map.Keys.{sorted_head, sorted_tail}
use Rattle.std.specs.Cmp.{IsTotalOrder}
use Rattle.std.specs.List.Sorted.{IsStrictlySortedBy}
use Rattle.std.specs.Ordering.{ordering_reverse}
use Rattle.std.specs.declared.cmp.Ordering.TheVariants.{Less}
use Rattle.std.specs.declared.cmp.Ordering.{Ordering}

module _ {A : Type 0} (R : A → A → Ordering) (o : IsTotalOrder R) where
  pub later_less : (x : A) (xs : List A) → IsStrictlySortedBy R (x ∷ xs) → (z : A) → Contains xs z → R x z ≡ Less
  later_less x xs sorted z in' = All-contains (λ y. R x y ≡ Less) xs z (All-from_recursion (λ y. R x y ≡ Less) xs (sorted_head R x xs sorted)) in'

  pub not_both : (x y : A) → R x y ≡ Less → R y x ≡ Less → ⊥
  not_both x y a b = absurd (cc (o.antisymm x y ∙ ap ordering_reverse b, a))

  pub heads : (x y : A) (xs ys : List A) → IsStrictlySortedBy R (x ∷ xs) → IsStrictlySortedBy R (y ∷ ys) → Contains (y ∷ ys) x → Contains (x ∷ xs) y → x ≡ y
  heads x y xs ys s t h g = ⊎_elim
      (λ e. sym e)
      (λ later. ⊎_elim (λ e. e) (λ later'. absurd (not_both x y (later_less x xs s y later') (later_less y ys t x later))) (contains_cases x y xs g))
      (contains_cases y x ys h)

  pub not_less_itself : (x : A) → R x x ≡ Less → ⊥
  not_less_itself x less = absurd (cc (tied_itself o x, less))

  pub rest_in : (x y : A) (xs ys : List A) → IsStrictlySortedBy R (x ∷ xs) → x ≡ y → ((z : A) → Contains (x ∷ xs) z → Contains (y ∷ ys) z) → (z : A) → Contains xs z → Contains ys z
  rest_in x y xs ys s same all z in' = ⊎_elim
      (λ e. absurd (not_less_itself x (ap (R x) (same ∙ e) ∙ later_less x xs s z in')))
      (λ later. later)
      (contains_cases y z ys (all z (contains_rest x z xs in')))

  -- lists that strictly rise and have the same elements are one
  pub same_members : (xs ys : List A) → IsStrictlySortedBy R xs → IsStrictlySortedBy R ys → ((z : A) → Contains xs z → Contains ys z) → ((z : A) → Contains ys z → Contains xs z) → xs ≡ ys
  same_members [] [] s t there back = refl
  same_members [] (y ∷ ys) s t there back = absurd (nothing_in y (back y (contains_first y ys)))
  same_members (x ∷ xs) [] s t there back = absurd (nothing_in x (there x (contains_first x xs)))
  same_members (x ∷ xs) (y ∷ ys) s t there back =
      let head = heads x y xs ys s t (there x (contains_first x xs)) (back y (contains_first y ys)) in
      let tail = same_members xs ys (sorted_tail R x xs s) (sorted_tail R y ys t) (rest_in x y xs ys s head there) (rest_in y x ys xs t (sym head) back) in
      λ i. head i ∷ tail i

pub rising_nil : {A : Type 0} (R : A → A → Ordering) → IsStrictlySortedBy R []
unfolding IsStrictlySortedBy
rising_nil R = tt
