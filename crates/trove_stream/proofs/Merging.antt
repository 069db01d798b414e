-- One step of a pass over two rising lists.
use Rattle.std.proofs.Common.{◌≡◌, ℕ, zero, suc, ◌+◌, ◌<◌, List, [], ◌∷◌, length, get_or, drop, All, Ordering, refl, sym, ap, ◌∙◌, subst, add-one, drop-cons}
use Rattle.std.specs.List.Sorted.{IsStrictlySortedBy}
use Rattle.std.specs.declared.cmp.Ordering.TheVariants.{Less, Equal, Greater}
use Rattle.std.proofs.lemmas.List.Elements.{All-nil, All-cons, All-head, All-tail, All-weaker, All-from_recursion}
use Rattle.trove_stream.specs.Disjoint.{AreDisjoint}

pub rising_drop : {K : Type 0} (R : K → K → Ordering) (i : ℕ) (xs : List K) → IsStrictlySortedBy R xs → IsStrictlySortedBy R (drop i xs)
unfolding IsStrictlySortedBy
rising_drop R zero xs rising = rising
rising_drop R (suc i) [] rising = tt
rising_drop R (suc i) (x ∷ xs) rising = rising_drop R i xs rising.1

-- what is left from a place on begins with the element there
pub front_at : {K : Type 0} (i : ℕ) (xs : List K) (x : K) → i < length xs → x ≡ get_or xs i x → drop i xs ≡ x ∷ drop (i + 1) xs
front_at {K} i xs x within is =
    let front : drop i xs ≡ get_or xs i x ∷ drop (i + 1) xs = rw (add-one, drop-cons xs i x) refl in
    front ∙ ap (λ (y : K). y ∷ drop (i + 1) xs) (sym is)

-- the element at a place is below all behind it
pub below_rest : {K : Type 0} (R : K → K → Ordering) (i : ℕ) (xs : List K) (x : K) → i < length xs → x ≡ get_or xs i x → IsStrictlySortedBy R xs → All (λ y. R x y ≡ Less) (drop (i + 1) xs)
unfolding IsStrictlySortedBy
below_rest {K} R i xs x within is rising =
    let P : List K → Type 0 = λ l. IsStrictlySortedBy R l in
    let both = subst P (front_at i xs x within is) (rising_drop R i xs rising) in
    All-from_recursion (λ y. R x y ≡ Less) (drop (i + 1) xs) both.0

module _ {A B : Type 0} (IsSame : A → B → Type 0) (across : A → B → Ordering) (order : A → A → Ordering) (other_order : B → B → Ordering) where
  pub record AreOrders : Type 0 where
    pub tied : (x : A) (y : B) → IsSame x y → across x y ≡ Equal
    pub below : (x : A) (y z : B) → across x y ≡ Less → other_order y z ≡ Less → across x z ≡ Less
    pub beyond : (x y : A) (z : B) → across x z ≡ Greater → order x y ≡ Less → across y z ≡ Greater

  less_apart : AreOrders → (x : A) (y : B) → across x y ≡ Less → IsSame x y → ⊥
  less_apart laws x y less same = let tied = laws.tied x y same in cc

  greater_apart : AreOrders → (x : A) (y : B) → across x y ≡ Greater → IsSame x y → ⊥
  greater_apart laws x y greater same = let tied = laws.tied x y same in cc

  -- an element below the first of the other list is none of it
  pub less_step : AreOrders → (x : A) (xs : List A) (y : B) (ys : List B) → across x y ≡ Less → All (λ z. other_order y z ≡ Less) ys → AreDisjoint IsSame xs (y ∷ ys) → AreDisjoint IsSame (x ∷ xs) (y ∷ ys)
  less_step laws x xs y ys less above rest =
      All-cons (λ a. All (λ b. IsSame a b → ⊥) (y ∷ ys)) x xs
      (All-cons (λ b. IsSame x b → ⊥) y ys (less_apart laws x y less)
      (All-weaker (λ z. other_order y z ≡ Less) (λ b. IsSame x b → ⊥) (λ z after. less_apart laws x z (laws.below x y z less after)) ys above)) rest

  add_first : (xs : List A) (y : B) (ys : List B) → All (λ a. IsSame a y → ⊥) xs → AreDisjoint IsSame xs ys → AreDisjoint IsSame xs (y ∷ ys)
  add_first [] y ys none rest = All-nil (λ a. All (λ b. IsSame a b → ⊥) (y ∷ ys))
  add_first (x ∷ xs) y ys none rest =
      All-cons (λ a. All (λ b. IsSame a b → ⊥) (y ∷ ys)) x xs
      (All-cons (λ b. IsSame x b → ⊥) y ys (All-head (λ a. IsSame a y → ⊥) x xs none) (All-head (λ a. All (λ b. IsSame a b → ⊥) ys) x xs rest))
      (add_first xs y ys (All-tail (λ a. IsSame a y → ⊥) x xs none) (All-tail (λ a. All (λ b. IsSame a b → ⊥) ys) x xs rest))

  -- an element of the other list below the first is none of this one
  pub greater_step : AreOrders → (x : A) (xs : List A) (y : B) (ys : List B) → across x y ≡ Greater → All (λ z. order x z ≡ Less) xs → AreDisjoint IsSame (x ∷ xs) ys → AreDisjoint IsSame (x ∷ xs) (y ∷ ys)
  greater_step laws x xs y ys greater above rest =
      add_first (x ∷ xs) y ys
      (All-cons (λ a. IsSame a y → ⊥) x xs (greater_apart laws x y greater)
      (All-weaker (λ z. order x z ≡ Less) (λ a. IsSame a y → ⊥) (λ z after. greater_apart laws z y (laws.beyond x z y greater after)) xs above)) rest

  -- the same, for what is left of two lists from two places on
  pub less_drop : AreOrders → (xs : List A) (ys : List B) (i j : ℕ) (x : A) (y : B) → i < length xs → j < length ys → x ≡ get_or xs i x → y ≡ get_or ys j y → IsStrictlySortedBy other_order ys → across x y ≡ Less
      → AreDisjoint IsSame (drop (i + 1) xs) (drop j ys) → AreDisjoint IsSame (drop i xs) (drop j ys)
  less_drop laws xs ys i j x y i_in j_in x_is y_is rising less rest =
      let front = front_at i xs x i_in x_is in
      let other_front = front_at j ys y j_in y_is in
      let from_pair : AreDisjoint IsSame (x ∷ drop (i + 1) xs) (y ∷ drop (j + 1) ys) =
      less_step laws x (drop (i + 1) xs) y (drop (j + 1) ys) less (below_rest other_order j ys y j_in y_is rising)
      (subst (λ (l : List B). AreDisjoint IsSame (drop (i + 1) xs) l) other_front rest) in
      subst (λ (l : List A). AreDisjoint IsSame l (drop j ys)) (sym front) (subst (λ (l : List B). AreDisjoint IsSame (x ∷ drop (i + 1) xs) l) (sym other_front) from_pair)

  pub greater_drop : AreOrders → (xs : List A) (ys : List B) (i j : ℕ) (x : A) (y : B) → i < length xs → j < length ys → x ≡ get_or xs i x → y ≡ get_or ys j y → IsStrictlySortedBy order xs → across x y ≡ Greater
      → AreDisjoint IsSame (drop i xs) (drop (j + 1) ys) → AreDisjoint IsSame (drop i xs) (drop j ys)
  greater_drop laws xs ys i j x y i_in j_in x_is y_is rising greater rest =
      let front = front_at i xs x i_in x_is in
      let other_front = front_at j ys y j_in y_is in
      let from_pair : AreDisjoint IsSame (x ∷ drop (i + 1) xs) (y ∷ drop (j + 1) ys) =
      greater_step laws x (drop (i + 1) xs) y (drop (j + 1) ys) greater (below_rest order i xs x i_in x_is rising)
      (subst (λ (l : List A). AreDisjoint IsSame l (drop (j + 1) ys)) front rest) in
      subst (λ (l : List A). AreDisjoint IsSame l (drop j ys)) (sym front) (subst (λ (l : List B). AreDisjoint IsSame (x ∷ drop (i + 1) xs) l) (sym other_front) from_pair)
