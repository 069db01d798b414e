-- Elements of lists.
use Rattle.std.proofs.Common.{◌≡◌, ℕ, suc, ◌+◌, ◌<◌, ◌≤◌, ◌⊎◌, ⊎_elim, inl, inr, List, [], ◌∷◌, ◌++◌, length, get_or, take, Contains, Some, None, Option, sym, ap, ◌∙◌, subst, arith}
use Rattle.std.specs.List.{filter_map, cons_option, AllByRecursion}
use Rattle.std.specs.List.Sorted.{IsStrictlySortedBy}
use Rattle.std.specs.declared.cmp.Ordering.{Ordering}
use Rattle.std.specs.declared.cmp.Ordering.TheVariants.{Less}
use Rattle.std.proofs.lemmas.List.{take_more}
use Rattle.std.proofs.lemmas.List.Elements.{filter_map-append}
use Rattle.std.proofs.lemmas.Option.{same_Some}
use Rattle.cny_version.proofs.cny-base.Lists.{contains_cases, contains_first, contains_rest, nothing_in}

-- the first elements and the next one
pub next_one : {A : Type 0} (xs : List A) (i : ℕ) (x : A) → i < length xs → x ≡ get_or xs i x → take (i + 1) xs ≡ take i xs ++ x ∷ []
next_one {A} xs i x within is = take_more xs i x within ∙ ap (λ (y : A). take i xs ++ y ∷ []) (sym is)

-- an element of two lists is one of the first or one of the second
pub append_cases : {A : Type 0} (xs ys : List A) (y : A) → Contains (xs ++ ys) y → Contains xs y ⊎ Contains ys y
append_cases [] ys y h = inr h
append_cases (x ∷ xs) ys y h = ⊎_elim
    (λ e. inl (subst (λ z. Contains (x ∷ xs) z) e (contains_first x xs)))
    (λ later. ⊎_elim (λ there. inl (contains_rest x y xs there)) (λ there. inr there) (append_cases xs ys y later))
    (contains_cases x y (xs ++ ys) h)

-- ---- what a function makes of the elements, without those of which it makes nothing

pub filter_map_push : {A B : Type 0} (f : A → Option B) (xs : List A) (x : A) → filter_map f (xs ++ x ∷ []) ≡ filter_map f xs ++ cons_option (f x) []
filter_map_push f xs x = filter_map-append f xs (x ∷ [])

cons_cases : {B : Type 0} (o : Option B) (ys : List B) (y : B) → Contains (cons_option o ys) y → (o ≡ Some y) ⊎ Contains ys y
cons_cases None ys y h = inr h
cons_cases {B} (Some x) ys y h = ⊎_elim (λ e. inl (ap (λ (z : B). Some z) e)) (λ later. inr later) (contains_cases x y ys h)

cons_first : {B : Type 0} (o : Option B) (ys : List B) (y : B) → o ≡ Some y → Contains (cons_option o ys) y
cons_first None ys y is = absurd (cc is)
cons_first {B} (Some x) ys y is = subst (λ (z : B). Contains (x ∷ ys) z) (same_Some x y is) (contains_first x ys)

cons_rest : {B : Type 0} (o : Option B) (ys : List B) (y : B) → Contains ys y → Contains (cons_option o ys) y
cons_rest None ys y h = h
cons_rest (Some x) ys y h = contains_rest x y ys h

module _ {A B : Type 0} (f : A → Option B) where
  pub from_filter : (xs : List A) (y : B) → Contains (filter_map f xs) y → (x : A) × Contains xs x × (f x ≡ Some y)
  from_filter [] y h = absurd (nothing_in y h)
  from_filter (x ∷ xs) y h = ⊎_elim
      (λ e. (x, contains_first x xs, e))
      (λ later. (let rest : (z : A) × Contains xs z × (f z ≡ Some y) = from_filter xs y later in (rest.0, contains_rest x rest.0 xs rest.1, rest.2)))
      (cons_cases (f x) (filter_map f xs) y h)

  pub in_filter : (xs : List A) (x : A) (y : B) → Contains xs x → f x ≡ Some y → Contains (filter_map f xs) y
  in_filter [] x y h is = absurd (nothing_in x h)
  in_filter (z ∷ xs) x y h is = ⊎_elim
      (λ e. cons_first (f z) (filter_map f xs) y (ap f e ∙ is))
      (λ later. cons_rest (f z) (filter_map f xs) y (in_filter xs x y later is))
      (contains_cases z x xs h)

  cons_length : (o : Option B) (ys : List B) (n : ℕ) → length ys ≤ n → length (cons_option o ys) ≤ suc n
  cons_length None ys n most = omega (arith, most)
  cons_length (Some y) ys n most = omega (arith, most)

  pub filter_short : (xs : List A) → length (filter_map f xs) ≤ length xs
  filter_short [] = omega arith
  filter_short (x ∷ xs) = cons_length (f x) (filter_map f xs) (length xs) (filter_short xs)

-- ---- tests

-- ---- lists that strictly rise

pub rises_cons : {A : Type 0} (R : A → A → Ordering) (x : A) (xs : List A) → AllByRecursion (λ y. R x y ≡ Less) xs → IsStrictlySortedBy R xs → IsStrictlySortedBy R (x ∷ xs)
unfolding IsStrictlySortedBy
rises_cons R x xs all rest = (all, rest)
