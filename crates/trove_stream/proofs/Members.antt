-- Elements of lists, and lists that strictly rise.
use Rattle.std.proofs.Common.{◌≡◌, ℕ, zero, suc, ◌+◌, ◌<◌, ◌≤◌, List, [], ◌∷◌, ◌++◌, length, get_or, take, drop, All, Contains, Ordering, refl, sym, ap, ◌∙◌, arith, add-one, drop-cons, append_assoc, length-drop}
use Rattle.std.specs.Prelude.{◌↔◌}
use Rattle.std.specs.Cmp.{IsTotalOrder}
use Rattle.std.specs.List.Sorted.{IsStrictlySortedBy}
use Rattle.std.specs.declared.cmp.Ordering.TheVariants.{Less}
use Rattle.std.proofs.lemmas.List.Elements.{All-from_recursion, recursion_from_All}
use Rattle.std.proofs.lemmas.Map.Keys.{sorted_head, sorted_tail}
use Rattle.trove_parts.proofs.cny-base.Lists.{contains_first, contains_rest, nothing_in}
use Rattle.trove_parts.proofs.cny-base.Sorted.{heads, rest_in}

-- ---- elements

pub contains_drop : {A : Type 0} (i : ℕ) (xs : List A) (x : A) → Contains (drop i xs) x → Contains xs x
contains_drop zero xs x h = h
contains_drop (suc i) [] x h = h
contains_drop (suc i) (y ∷ xs) x h = contains_rest y x xs (contains_drop i xs x h)

-- an element stands where the rest begins with one
pub within_front : {A : Type 0} (i : ℕ) (xs : List A) (x : A) (rest : List A) → drop i xs ≡ x ∷ rest → i < length xs
within_front i xs x rest is = omega (arith, ap length is, length-drop i xs)

-- one element and more behind a list
pub pushed : {A : Type 0} (xs ys : List A) (x : A) (more : List A) → ys ≡ xs ++ x ∷ [] → xs ++ x ∷ more ≡ ys ++ more
pushed xs ys x more is = sym (ap (λ l. l ++ more) is ∙ append_assoc xs (x ∷ []) more)

-- ---- lists that strictly rise

pub rising_cons : {A : Type 0} (R : A → A → Ordering) (x : A) (xs : List A) → All (λ y. R x y ≡ Less) xs → IsStrictlySortedBy R xs → IsStrictlySortedBy R (x ∷ xs)
unfolding IsStrictlySortedBy
rising_cons R x xs above rises = (recursion_from_All (λ y. R x y ≡ Less) xs above, rises)

pub rising_head : {A : Type 0} (R : A → A → Ordering) (x : A) (xs : List A) → IsStrictlySortedBy R (x ∷ xs) → All (λ y. R x y ≡ Less) xs
rising_head R x xs rises = All-from_recursion (λ y. R x y ≡ Less) xs (sorted_head R x xs rises)

-- what is left from a place on, where its first element is known
pub front_is : {A : Type 0} (i : ℕ) (xs : List A) (x : A) (rest : List A) → drop i xs ≡ x ∷ rest → drop i xs ≡ x ∷ drop (i + 1) xs
front_is {A} i xs x rest is =
    let within : i < length xs = within_front i xs x rest is in
    let front : drop i xs ≡ get_or xs i x ∷ drop (i + 1) xs = rw (add-one, drop-cons xs i x) refl in
    let tails : rest ≡ drop (i + 1) xs = cc (front, is) in
    is ∙ ap (λ (l : List A). x ∷ l) tails

pub first_is : {A : Type 0} (xs : List A) (x y : A) (rest more : List A) → xs ≡ x ∷ rest → xs ≡ y ∷ more → x ≡ y
first_is xs x y rest more is is' = cc (is, is')

pub drop_all : {A : Type 0} (i : ℕ) (xs : List A) → length xs ≤ i → drop i xs ≡ []
drop_all zero [] past = refl
drop_all zero (x ∷ xs) past = absurd (omega arith)
drop_all (suc i) [] past = refl
drop_all (suc i) (x ∷ xs) past = drop_all i xs (omega arith)

pub take_all : {A : Type 0} (i : ℕ) (xs : List A) → length xs ≤ i → take i xs ≡ xs
take_all zero [] past = refl
take_all zero (x ∷ xs) past = absurd (omega arith)
take_all (suc i) [] past = refl
take_all (suc i) (x ∷ xs) past = ap (λ l. x ∷ l) (take_all i xs (omega arith))

-- ---- lists in order with the same elements

module _ {A : Type 0} (R : A → A → Ordering) (o : IsTotalOrder R) where
  pub same_members : (xs ys : List A) → IsStrictlySortedBy R xs → IsStrictlySortedBy R ys → ((z : A) → Contains xs z ↔ Contains ys z) → xs ≡ ys
  same_members [] [] s t same = refl
  same_members [] (y ∷ ys) s t same = absurd (nothing_in y ((same y).1 (contains_first y ys)))
  same_members (x ∷ xs) [] s t same = absurd (nothing_in x ((same x).0 (contains_first x xs)))
  same_members (x ∷ xs) (y ∷ ys) s t same =
      let head = heads R o x y xs ys s t ((same x).0 (contains_first x xs)) ((same y).1 (contains_first y ys)) in
      let tail = same_members xs ys (sorted_tail R x xs s) (sorted_tail R y ys t)
      (λ z. (rest_in R o x y xs ys s head (λ z. (same z).0) z, rest_in R o y x ys xs t (sym head) (λ z. (same z).1) z)) in
      λ i. head i ∷ tail i
