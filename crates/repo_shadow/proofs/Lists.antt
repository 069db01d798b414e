-- The elements of lists: of those that a function makes, and those that a search finds.
use Rattle.std.proofs.Common.{◌≡◌, ◌⊎◌, ⊎_elim, inl, inr, Bool, true, false, cond, List, [], ◌∷◌, map, find, is_some, Contains, Option, Some, None, refl, sym, ap, subst, ◌∙◌, true≢false}
use Rattle.std.specs.Option.{option_map}
use Rattle.std.proofs.lemmas.Option.{none-some, same_Some}
use Rattle.cny_version.proofs.cny-base.Lists.{contains_cases, contains_first, contains_rest, nothing_in}

-- ---- elements

-- ---- lists that a function makes

pub map_same : {A B : Type 0} (f g : A → B) (xs : List A) → ((x : A) → Contains xs x → f x ≡ g x) → map f xs ≡ map g xs
map_same f g [] same = refl
map_same f g (x ∷ xs) same =
    let head = same x (contains_first x xs) in
    let tail = map_same f g xs (λ y among. same y (contains_rest x y xs among)) in
    λ i. head i ∷ tail i

-- ---- searches

none_parts : {A : Type 0} (x : A) (rest : Option A) (b : Bool) → cond b (Some x) rest ≡ None → (b ≡ false) × (rest ≡ None)
none_parts x rest true some = absurd (none-some x (sym some))
none_parts x rest false none = (refl, none)

some_parts : {A : Type 0} (x y : A) (rest : Option A) (b : Bool) → cond b (Some x) rest ≡ Some y → ((b ≡ true) × (x ≡ y)) ⊎ (rest ≡ Some y)
some_parts x y rest true some = inl (refl, same_Some x y some)
some_parts x y rest false some = inr some

module _ {A : Type 0} (p : A → Bool) where
  -- a search finds none, so none passes
  pub find_none : (xs : List A) → find p xs ≡ None → (x : A) → Contains xs x → p x ≡ false
  find_none [] none x h = absurd (nothing_in x h)
  find_none (y ∷ xs) none x h =
      let parts = none_parts y (find p xs) (p y) none in
      ⊎_elim (λ same. ap p (sym same) ∙ parts.0) (λ later. find_none xs parts.1 x later) (contains_cases y x xs h)

  -- what a search finds is there and passes
  pub find_some : (xs : List A) (x : A) → find p xs ≡ Some x → Contains xs x × (p x ≡ true)
  find_some [] x some = absurd (none-some x some)
  find_some (y ∷ xs) x some = ⊎_elim
      (λ here. (subst (λ (z : A). Contains (y ∷ xs) z) here.1 (contains_first y xs), ap p (sym here.1) ∙ here.0))
      (λ later. (let rest : Contains xs x × (p x ≡ true) = find_some xs x later in (contains_rest y x xs rest.0, rest.1)))
      (some_parts y x (find p xs) (p y) some)

  -- one passes, so a search finds one
  pub is_found : (xs : List A) (x : A) → Contains xs x → p x ≡ true → is_some (find p xs) ≡ true
  is_found xs x among passes = by (find p xs) refl
    where
      by : (o : Option A) → find p xs ≡ o → is_some o ≡ true
      by None none = absurd (true≢false (sym passes ∙ find_none xs none x among))
      by (Some y) some = refl

pub is_some_of : {A : Type 0} (o : Option A) → is_some o ≡ true → (x : A) × (o ≡ Some x)
is_some_of None none = absurd (true≢false (sym none))
is_some_of (Some x) some = (x, refl)

pub mapped_none : {A B : Type 0} (f : A → B) (o : Option A) → option_map f o ≡ None → o ≡ None
mapped_none f None none = refl
mapped_none f (Some x) some = absurd (none-some (f x) (sym some))
