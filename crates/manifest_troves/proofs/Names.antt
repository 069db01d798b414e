-- Names that are put in order, each once.
use Rattle.std.proofs.Common.{◌≡◌, ℕ, Bool, true, false, ◌||◌, List, [], ◌∷◌, map, refl, sym, ap, ◌∙◌}
use Rattle.std.specs.BTreeSet.{insert_key}
use Rattle.std.specs.Cmp.Lexicographic.{slice_cmp, texts_ties, nat_list_cmp_total, nat_list_eq_equiv}
use Rattle.std.specs.List.{AllByRecursion, list_any}
use Rattle.std.specs.List.Sorted.{IsStrictlySortedBy}
use Rattle.std.specs.Ordering.{nat_cmp, is_eq, match_ordering, ordering_reverse}
use Rattle.std.specs.Str.{bytes_eq}
use Rattle.std.specs.declared.cmp.Ordering.{Ordering}
use Rattle.std.specs.declared.cmp.Ordering.TheVariants.{Less, Equal, Greater}
use Rattle.manifest_troves.specs.Troves.{with_names}
use Rattle.change_set.proofs.cny-base.ByteLists.{bytes_mean as bytes_are}
use Rattle.change_set.proofs.cny-base.Bools.{or_false}

-- ---- equal names

abbrev pub by_bytes : List ℕ → List ℕ → Ordering
by_bytes = slice_cmp nat_cmp

pub same_test : (x y : List ℕ) → bytes_eq x y ≡ is_eq (by_bytes x y)
same_test = texts_ties

pub tied : (x y : List ℕ) → by_bytes x y ≡ Equal → x ≡ y
tied x y e = bytes_are x y (same_test x y ∙ ap is_eq e)

pub turned_bytes : (x y : List ℕ) (b : Bool) → bytes_eq x y ≡ b → bytes_eq y x ≡ b
turned_bytes x y b e = nat_list_eq_equiv.symm y x ∙ e

-- ---- their order

key_below : (x k : List ℕ) (ks : List (List ℕ)) → by_bytes x k ≡ Less → AllByRecursion (λ (y : List ℕ). by_bytes x y ≡ Less) ks
    → AllByRecursion (λ (y : List ℕ). by_bytes x y ≡ Less) (insert_key by_bytes ks k)
key_below x k [] less all = (less, tt)
key_below x k (y ∷ ys) less all = at (by_bytes k y) (key_below x k ys less all.1)
  where
    at : (o : Ordering) → AllByRecursion (λ (y : List ℕ). by_bytes x y ≡ Less) (insert_key by_bytes ys k)
        → AllByRecursion (λ (y : List ℕ). by_bytes x y ≡ Less) (match_ordering o (k ∷ y ∷ ys) (y ∷ ys) (y ∷ insert_key by_bytes ys k))
    at Less later = (less, all)
    at Equal later = all
    at Greater later = (all.0, later)

all_after : (k x : List ℕ) (ks : List (List ℕ)) → by_bytes k x ≡ Less → AllByRecursion (λ (y : List ℕ). by_bytes x y ≡ Less) ks → AllByRecursion (λ (y : List ℕ). by_bytes k y ≡ Less) ks
all_after k x [] less all = tt
all_after k x (y ∷ ys) less all = (nat_list_cmp_total.trans k x y less all.0, all_after k x ys less all.1)

turned : (k x : List ℕ) → by_bytes k x ≡ Greater → by_bytes x k ≡ Less
turned k x e = nat_list_cmp_total.antisymm x k ∙ ap ordering_reverse e

key_sorted : (ks : List (List ℕ)) (k : List ℕ) → IsStrictlySortedBy by_bytes ks → IsStrictlySortedBy by_bytes (insert_key by_bytes ks k)
unfolding IsStrictlySortedBy
key_sorted [] k s = (tt, tt)
key_sorted (x ∷ xs) k s = at (by_bytes k x) refl (key_sorted xs k s.1)
  where
    at : (o : Ordering) → by_bytes k x ≡ o → IsStrictlySortedBy by_bytes (insert_key by_bytes xs k) → IsStrictlySortedBy by_bytes (match_ordering o (k ∷ x ∷ xs) (x ∷ xs) (x ∷ insert_key by_bytes xs k))
    at Less e later = ((e, all_after k x xs e s.0), s)
    at Equal e later = s
    at Greater e later = (key_below x k xs (turned k x e) s.0, later)

pub names_sorted : (known names : List (List ℕ)) → IsStrictlySortedBy by_bytes known → IsStrictlySortedBy by_bytes (with_names known names)
names_sorted known [] s = s
names_sorted known (n ∷ names) s = names_sorted (insert_key by_bytes known n) names (key_sorted known n s)

pub none_sorted : IsStrictlySortedBy by_bytes []
unfolding IsStrictlySortedBy
none_sorted = tt

-- ---- which are among them

abbrev pub has : List ℕ → List (List ℕ) → Bool
has q names = list_any (λ (n : List ℕ). bytes_eq n q) names

pub or_true : (b : Bool) → (b || true) ≡ true
or_true true = refl
or_true false = refl

or_twice : (a b : Bool) → (a || (a || b)) ≡ (a || b)
or_twice true b = refl
or_twice false b = refl

or_swap : (a b c : Bool) → (a || (b || c)) ≡ (b || (a || c))
or_swap true true c = refl
or_swap true false c = refl
or_swap false b c = refl

or_shift : (a b c : Bool) → ((a || b) || c) ≡ (b || (a || c))
or_shift true true c = refl
or_shift true false c = refl
or_shift false b c = refl

has_key : (q k : List ℕ) (ks : List (List ℕ)) → has q (insert_key by_bytes ks k) ≡ (bytes_eq k q || has q ks)
has_key q k [] = refl
has_key q k (x ∷ xs) = at (by_bytes k x) refl (has_key q k xs)
  where
    at : (o : Ordering) → by_bytes k x ≡ o → has q (insert_key by_bytes xs k) ≡ (bytes_eq k q || has q xs)
        → has q (match_ordering o (k ∷ x ∷ xs) (x ∷ xs) (x ∷ insert_key by_bytes xs k)) ≡ (bytes_eq k q || has q (x ∷ xs))
    at Less e later = refl
    at Equal e later =
        sym (or_twice (bytes_eq x q) (has q xs)) ∙ ap (λ (n : List ℕ). bytes_eq n q || (bytes_eq x q || has q xs)) (sym (tied k x e))
    at Greater e later = ap (λ (b : Bool). bytes_eq x q || b) later ∙ or_swap (bytes_eq x q) (bytes_eq k q) (has q xs)

pub has_names : (q : List ℕ) (known names : List (List ℕ)) → has q (with_names known names) ≡ (has q known || has q names)
has_names q known [] = sym (or_false (has q known))
has_names q known (n ∷ names) =
    has_names q (insert_key by_bytes known n) names
    ∙ ap (λ (b : Bool). b || has q names) (has_key q n known)
    ∙ or_shift (bytes_eq n q) (has q known) (has q names)

pub has_mapped : {A : Type 0} (f : A → List ℕ) (q : List ℕ) (xs : List A) → has q (map f xs) ≡ list_any (λ (x : A). bytes_eq (f x) q) xs
has_mapped f q [] = refl
has_mapped f q (x ∷ xs) = ap (λ (b : Bool). bytes_eq (f x) q || b) (has_mapped f q xs)
