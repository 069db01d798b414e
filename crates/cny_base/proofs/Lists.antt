-- Elements of lists, and their places.
use Rattle.std.proofs.Common.{All, Contains, List, Some, [], ap, arith, drop, get_or, inl, inr, length, length-drop, map, refl, slice_get, subst, suc, sym, take, zero, ℕ, ⊎_elim, ◌++◌, ◌-◌, ◌<◌, ◌∙◌, ◌∷◌, ◌≡◌, ◌≤◌, ◌⊎◌, Bool, None, Option, add-one, drop-cons, false, is_some, true, true≢false, ◌+◌, ◌||◌}
use Rattle.std.proofs.lemmas.List.Elements.{Contains-get_or, All-contains, All-head, All-tail, Contains-append_left, Contains-append_right}
use Rattle.std.proofs.lemmas.List.{take_all, take-append-drop}
use Rattle.std.proofs.lemmas.Option.{same_Some, slice_get-get_or, slice_get_within}
use Rattle.std.specs.List.{list_any}

pub nothing_in : {A : Type 0} (x : A) → Contains [] x → ⊥
nothing_in x h = let within = h.1 in omega (arith, within)

pub contains_first : {A : Type 0} (x : A) (xs : List A) → Contains (x ∷ xs) x
contains_first x xs = (0, omega arith, refl)

pub contains_rest : {A : Type 0} (x y : A) (xs : List A) → Contains xs y → Contains (x ∷ xs) y
contains_rest x y xs h = (suc h.0, omega (arith, h.1), h.2)

pub contains_cases : {A : Type 0} (x y : A) (xs : List A) → Contains (x ∷ xs) y → (x ≡ y) ⊎ Contains xs y
contains_cases {A} x y xs h = at h.0 h.1 h.2
  where
    at : (k : ℕ) → k < length (x ∷ xs) → get_or (x ∷ xs) k y ≡ y → (x ≡ y) ⊎ Contains xs y
    at zero within is = inl is
    at (suc k) within is = inr (k, omega (arith, within), is)

pub all_from : {A : Type 0} (P : A → Type 0) (xs : List A) → ((x : A) → Contains xs x → P x) → All P xs
all_from P xs each = λ k d within. each (get_or xs k d) (Contains-get_or xs k d within)

-- the rest of some bytes, as a slice has it
pub rest_is : (bytes : List ℕ) (at n : ℕ) → take n (take (length bytes - at) (drop at bytes)) ≡ take n (drop at bytes)
rest_is bytes at n = ap (take n) (take_all (length bytes - at) (drop at bytes) (omega (arith, length-drop at bytes)))

pub contains_at : {A : Type 0} (xs : List A) (i : ℕ) (x : A) → slice_get xs i ≡ Some x → Contains xs x
contains_at {A} xs i x at =
    let within = slice_get_within xs i x at in
    (i, within, same_Some (get_or xs i x) x (sym (slice_get-get_or xs i x within) ∙ at))

pub map_push : {A B : Type 0} (f : A → B) (xs : List A) (x : A) → map f (xs ++ x ∷ []) ≡ map f xs ++ f x ∷ []
map_push f [] x = refl
map_push {B = B} f (y ∷ xs) x = ap (λ (l : List B). f y ∷ l) (map_push f xs x)

-- an element of a mapped list
pub contains_map : {A B : Type 0} (f : A → B) (xs : List A) (x : A) → Contains xs x → Contains (map f xs) (f x)
contains_map f [] x h = absurd (nothing_in x h)
contains_map {B = B} f (y ∷ xs) x h = ⊎_elim
    (λ e. subst (λ (z : B). Contains (map f (y ∷ xs)) z) (ap f e) (contains_first (f y) (map f xs)))
    (λ later. contains_rest (f y) (f x) (map f xs) (contains_map f xs x later))
    (contains_cases y x xs h)

-- an element of a list has a place
pub place_in : {A : Type 0} (xs : List A) (x : A) → Contains xs x → (i : ℕ) × (i < length xs) × (slice_get xs i ≡ Some x)
place_in {A} xs x among = (among.0, among.1, slice_get-get_or xs among.0 x among.1 ∙ ap (λ (y : A). Some y) among.2)

pub number_at : (keys : List ℕ) (n : ℕ) → Contains keys n → (i : ℕ) × (i < length keys) × (get_or keys i 0 ≡ n)
number_at keys n among =
    let at = place_in keys n among in
    (at.0, at.1, same_Some (get_or keys at.0 0) n (sym (slice_get-get_or keys at.0 0 at.1) ∙ at.2))

-- a place behind which nothing is left
pub is_end : (bytes : List ℕ) (to : ℕ) → to ≤ length bytes → drop to bytes ≡ [] → to ≡ length bytes
is_end bytes to within none = let long = ap length none in omega (arith, length-drop to bytes)

-- one passes
pub one_passes : {A : Type 0} (p : A → Bool) (xs : List A) → list_any p xs ≡ true → (x : A) × Contains xs x × (p x ≡ true)
one_passes p [] is = absurd (cc is)
one_passes {A} p (x ∷ xs) is = by (p x) refl is (λ any. one_passes p xs any)
  where
    by : (b : Bool) → p x ≡ b → (b || list_any p xs) ≡ true → (list_any p xs ≡ true → (y : A) × Contains xs y × (p y ≡ true)) → (y : A) × Contains (x ∷ xs) y × (p y ≡ true)
    by true e any later = (x, contains_first x xs, e)
    by false e any later = let rest = later any in (rest.0, contains_rest x rest.0 xs rest.1, rest.2)

-- what stands before an element, and what behind it
pub split_at : {A : Type 0} (i : ℕ) (xs : List A) (x : A) → i < length xs → x ≡ get_or xs i x → xs ≡ take i xs ++ x ∷ drop (i + 1) xs
split_at {A} i xs x within is =
    let front : drop i xs ≡ get_or xs i x ∷ drop (i + 1) xs = rw (add-one, drop-cons xs i x) refl in
    sym (take-append-drop i xs) ∙ ap (λ (l : List A). take i xs ++ l) (front ∙ ap (λ (y : A). y ∷ drop (i + 1) xs) (sym is))

module _ {A B : Type 0} (f : A → B) where
  pub from_map : (xs : List A) (y : B) → Contains (map f xs) y → (x : A) × Contains xs x × (f x ≡ y)
  from_map [] y h = absurd (nothing_in y h)
  from_map (x ∷ xs) y h = ⊎_elim
      (λ same. (x, contains_first x xs, same))
      (λ later. (let rest : (z : A) × Contains xs z × (f z ≡ y) = from_map xs y later in (rest.0, contains_rest x rest.0 xs rest.1, rest.2)))
      (contains_cases (f x) y (map f xs) h)

pub not_some : {A : Type 0} (o : Option A) → is_some o ≡ false → o ≡ None
not_some None none = refl
not_some (Some x) some = absurd (true≢false some)

pub length-map : {A B : Type 0} (f : A → B) (xs : List A) → length (map f xs) ≡ length xs
length-map f [] = refl
length-map f (x ∷ xs) = ap suc (length-map f xs)

pub left_all : {X : Type 0} (P : X → Type 0) (xs ys : List X) → All P (xs ++ ys) → All P xs
left_all P xs ys all = all_from P xs (λ x in'. All-contains P (xs ++ ys) x all (Contains-append_left xs ys x in'))

pub right_all : {X : Type 0} (P : X → Type 0) (xs ys : List X) → All P (xs ++ ys) → All P ys
right_all P xs ys all = all_from P ys (λ x in'. All-contains P (xs ++ ys) x all (Contains-append_right xs ys x in'))

pub all_at : {A : Type 0} (P : A → Type 0) (xs : List A) (x : A) (ys : List A) → All P (xs ++ x ∷ ys) → P x
all_at P [] x ys all = All-head P x ys all
all_at P (y ∷ xs) x ys all = all_at P xs x ys (All-tail P y (xs ++ x ∷ ys) all)
