-- What is found at the places of the items that pass a test.
use Rattle.std.proofs.Common.{◌≡◌, ℕ, ◌+◌, Bool, true, false, cond, List, [], ◌∷◌, ◌++◌, length, filter, filter_map, slice_get, Option, Some, refl, sym, ap, ◌∙◌, append_assoc, arith}
use Rattle.std.specs.List.{cons_option}
use Rattle.std.proofs.lemmas.List.{length_push}
use Rattle.repo_index.specs.Catalogue.{places_from}

-- ---- items at their places

slice_get-middle : {A : Type 0} (before : List A) (x : A) (after : List A) → slice_get (before ++ x ∷ after) (length before) ≡ Some x
slice_get-middle [] x after = refl
slice_get-middle (y ∷ before) x after = slice_get-middle before x after

picked_one : {A : Type 0} (test : A → Bool) (before xs : List A) (x : A) → filter_map (slice_get (before ++ x ∷ xs)) (places_from (length before + 1) test xs) ≡ filter test xs → (b : Bool)
    → filter_map (slice_get (before ++ x ∷ xs)) (cond b (length before ∷ places_from (length before + 1) test xs) (places_from (length before + 1) test xs)) ≡ cond b (x ∷ filter test xs) (filter test xs)
picked_one {A} test before xs x next true =
    ap (λ (o : Option A). cons_option o (filter_map (slice_get (before ++ x ∷ xs)) (places_from (length before + 1) test xs))) (slice_get-middle before x xs)
    ∙ ap (λ (l : List A). x ∷ l) next
picked_one test before xs x next false = next

picked_next : {A : Type 0} (test : A → Bool) (before xs : List A) (x : A) → filter_map (slice_get ((before ++ x ∷ []) ++ xs)) (places_from (length (before ++ x ∷ [])) test xs) ≡ filter test xs
    → filter_map (slice_get (before ++ x ∷ xs)) (places_from (length before + 1) test xs) ≡ filter test xs
picked_next {A} test before xs x rest =
    ap (λ (l : List A). filter_map (slice_get l) (places_from (length before + 1) test xs)) (sym (append_assoc before (x ∷ []) xs))
    ∙ ap (λ (n : ℕ). filter_map (slice_get ((before ++ x ∷ []) ++ xs)) (places_from n test xs)) (sym (length_push before x))
    ∙ rest

-- the items at the places of those that pass are those that pass
pub picked_places : {A : Type 0} (test : A → Bool) (before xs : List A) → filter_map (slice_get (before ++ xs)) (places_from (length before) test xs) ≡ filter test xs
picked_places test before [] = refl
picked_places test before (x ∷ xs) = picked_one test before xs x (picked_next test before xs x (picked_places test (before ++ x ∷ []) xs)) (test x)

-- ---- places of one item more

pushed_one : {A : Type 0} (n : ℕ) (test : A → Bool) (xs : List A) (x y : A) → places_from (n + 1) test (xs ++ y ∷ []) ≡ places_from (n + 1) test xs ++ cond (test y) ((n + 1 + length xs) ∷ []) [] → (b : Bool)
    → cond b (n ∷ places_from (n + 1) test (xs ++ y ∷ [])) (places_from (n + 1) test (xs ++ y ∷ []))
    ≡ cond b (n ∷ places_from (n + 1) test xs) (places_from (n + 1) test xs) ++ cond (test y) ((n + length (x ∷ xs)) ∷ []) []
pushed_one n test xs x y rest b =
    let later : n + 1 + length xs ≡ n + length (x ∷ xs) = omega arith in
    let moved : places_from (n + 1) test (xs ++ y ∷ []) ≡ places_from (n + 1) test xs ++ cond (test y) ((n + length (x ∷ xs)) ∷ []) [] =
    rest ∙ ap (λ (m : ℕ). places_from (n + 1) test xs ++ cond (test y) (m ∷ []) []) later in
    elim b as (λ c. cond c (n ∷ places_from (n + 1) test (xs ++ y ∷ [])) (places_from (n + 1) test (xs ++ y ∷ []))
    ≡ cond c (n ∷ places_from (n + 1) test xs) (places_from (n + 1) test xs) ++ cond (test y) ((n + length (x ∷ xs)) ∷ []) [])
    [ true ↦ ap (λ (l : List ℕ). n ∷ l) moved | false ↦ moved ]

pub places_from-push : {A : Type 0} (n : ℕ) (test : A → Bool) (xs : List A) (y : A) → places_from n test (xs ++ y ∷ []) ≡ places_from n test xs ++ cond (test y) ((n + length xs) ∷ []) []
places_from-push n test [] y = let none : n ≡ n + 0 = omega arith in ap (λ (m : ℕ). cond (test y) (m ∷ []) []) none
places_from-push n test (x ∷ xs) y = pushed_one n test xs x y (places_from-push (n + 1) test xs y) (test x)
