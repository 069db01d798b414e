-- Lists put in order, an item at a time.
use Rattle.std.specs.Prelude.{◌≡◌, ℕ, Bool, true, false, cond, ◌&&◌, List, [], ◌∷◌, ◌++◌, length, refl, insert}
use Rattle.std.proofs.Common.{suc, ◌+◌, sym, ◌∙◌, ap, subst, arith}
use Rattle.std.specs.Cmp.{first_so, second_so}
use Rattle.std.specs.Cmp.Lexicographic.{slice_cmp, nat_list_cmp_total}
use Rattle.std.proofs.lemmas.List.Sorted.{IsPermutation-refl, IsPermutation-cons, IsPermutation-trans, IsPermutation-insert}
use Rattle.std.specs.List.{list_all, prefix_len}
use Rattle.std.specs.List.Sorted.{IsPermutation}
use Rattle.std.specs.Ordering.{nat_cmp, is_lt, ordering_reverse}
use Rattle.std.specs.declared.cmp.Ordering.{Ordering}
use Rattle.std.specs.declared.cmp.Ordering.TheVariants.{Less, Equal, Greater}
use Rattle.cny_dep.specs.FlavorOrder.{precedes, put, put_all, in_order, rise, rise_after}

put_here : {X : Type 0} (b : Bool) (n : ℕ) (x y : X) (ys more : List X) → more ≡ insert ys n x → cond b (y ∷ more) (x ∷ y ∷ ys) ≡ insert (y ∷ ys) (cond b (1 + n) 0) x
put_here true n x y ys more is = grind (arith, is)
put_here false n x y ys more is = refl

pub put_is_insert : {X : Type 0} (word : X → List ℕ) (x : X) (ys : List X) → put word x ys ≡ insert ys (prefix_len (λ y. precedes (word y) (word x)) ys) x
put_is_insert word x [] = refl
put_is_insert word x (y ∷ ys) =
    put_here (precedes (word y) (word x)) (prefix_len (λ z. precedes (word z) (word x)) ys) x y ys (put word x ys) (put_is_insert word x ys)

pub put_all_push : {X : Type 0} (word : X → List ℕ) (xs : List X) (x : X) (ys : List X) → put_all word (xs ++ x ∷ []) ys ≡ put_all word xs (put word x ys)
put_all_push word [] x ys = refl
put_all_push word (z ∷ xs) x ys = ap (put word z) (put_all_push word xs x ys)

-- the last item is put in, and those before it are left
pub put_last : {X : Type 0} (word : X → List ℕ) (all xs : List X) (x : X) (ys : List X) → all ≡ xs ++ x ∷ []
    → put_all word xs (insert ys (prefix_len (λ y. precedes (word y) (word x)) ys) x) ≡ put_all word all ys
put_last word all xs x ys is =
    ap (put_all word xs) (sym (put_is_insert word x ys)) ∙ sym (put_all_push word xs x ys) ∙ ap (λ l. put_all word l ys) (sym is)

-- ---- what putting in order keeps

list_all_here : (x y z : Bool) → (x && (y && z)) ≡ (y && (x && z))
list_all_here true true z = refl
list_all_here true false z = refl
list_all_here false true z = refl
list_all_here false false z = refl

put_keeps_here : {X : Type 0} (p : X → Bool) (b : Bool) (x y : X) (ys more : List X) → list_all p more ≡ (p x && list_all p ys)
    → list_all p (cond b (y ∷ more) (x ∷ y ∷ ys)) ≡ (p x && (p y && list_all p ys))
put_keeps_here p true x y ys more is = ap (λ b. p y && b) is ∙ list_all_here (p y) (p x) (list_all p ys)
put_keeps_here p false x y ys more is = refl

list_all-put : {X : Type 0} (p : X → Bool) (word : X → List ℕ) (x : X) (ys : List X) → list_all p (put word x ys) ≡ (p x && list_all p ys)
list_all-put p word x [] = refl
list_all-put p word x (y ∷ ys) = put_keeps_here p (precedes (word y) (word x)) x y ys (put word x ys) (list_all-put p word x ys)

pub list_all-in_order : {X : Type 0} (p : X → Bool) (word : X → List ℕ) (xs : List X) → list_all p (in_order word xs) ≡ list_all p xs
list_all-in_order p word [] = refl
list_all-in_order p word (x ∷ xs) = list_all-put p word x (in_order word xs) ∙ ap (λ b. p x && b) (list_all-in_order p word xs)

length_here : {X : Type 0} (b : Bool) (x y : X) (ys more : List X) → length more ≡ suc (length ys) → length (cond b (y ∷ more) (x ∷ y ∷ ys)) ≡ suc (suc (length ys))
length_here true x y ys more is = ap suc is
length_here false x y ys more is = refl

length-put : {X : Type 0} (word : X → List ℕ) (x : X) (ys : List X) → length (put word x ys) ≡ suc (length ys)
length-put word x [] = refl
length-put word x (y ∷ ys) = length_here (precedes (word y) (word x)) x y ys (put word x ys) (length-put word x ys)

pub length-in_order : {X : Type 0} (word : X → List ℕ) (xs : List X) → length (in_order word xs) ≡ length xs
length-in_order word [] = refl
length-in_order word (x ∷ xs) = length-put word x (in_order word xs) ∙ ap suc (length-in_order word xs)

-- ---- a list that is in order stays as it is

rise_rest : {X : Type 0} (word : X → List ℕ) (before : List ℕ) (xs : List X) → rise_after word before xs ≡ true → rise word xs ≡ true
rise_rest word before [] up = refl
rise_rest word before (x ∷ xs) up = second_so (precedes before (word x)) (rise_after word (word x) xs) up

turned : (o : Ordering) → is_lt (ordering_reverse o) ≡ true → is_lt o ≡ false
turned Less is = absurd (cc is)
turned Equal is = refl
turned Greater is = refl

not_before : (a b : List ℕ) → precedes a b ≡ true → precedes b a ≡ false
not_before a b is = turned (slice_cmp nat_cmp b a) (ap is_lt (sym (nat_list_cmp_total.antisymm a b)) ∙ is)

put_first : {X : Type 0} (word : X → List ℕ) (x : X) (ys : List X) → rise_after word (word x) ys ≡ true → put word x ys ≡ x ∷ ys
put_first word x [] up = refl
put_first word x (y ∷ ys) up =
    ap (λ v. cond v (y ∷ put word x ys) (x ∷ y ∷ ys)) (not_before (word x) (word y) (first_so (precedes (word x) (word y)) (rise_after word (word y) ys) up))

pub in_order-rising : {X : Type 0} (word : X → List ℕ) (xs : List X) → rise word xs ≡ true → in_order word xs ≡ xs
in_order-rising word [] up = refl
in_order-rising word (x ∷ xs) up = ap (put word x) (in_order-rising word xs (rise_rest word (word x) xs up)) ∙ put_first word x xs up

-- ---- putting in order keeps each item

put_permutes : {X : Type 0} (word : X → List ℕ) (x : X) (ys : List X) → IsPermutation (x ∷ ys) (put word x ys)
put_permutes {X} word x ys =
    subst (λ (l : List X). IsPermutation (x ∷ ys) l) (sym (put_is_insert word x ys)) (IsPermutation-insert ys (prefix_len (λ y. precedes (word y) (word x)) ys) x)

pub in_order_permutes : {X : Type 0} (word : X → List ℕ) (xs : List X) → IsPermutation xs (in_order word xs)
in_order_permutes word [] = IsPermutation-refl []
in_order_permutes word (x ∷ xs) =
    IsPermutation-trans (x ∷ xs) (x ∷ in_order word xs) (put word x (in_order word xs)) (IsPermutation-cons x xs (in_order word xs) (in_order_permutes word xs)) (put_permutes word x (in_order word xs))
