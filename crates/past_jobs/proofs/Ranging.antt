-- Paths whose text begins with that of a directory come one after the other.
use Rattle.std.proofs.Common.{◌≡◌, ⊎_elim, ℕ, Bool, true, false, cond, ◌&&◌, ◌||◌, ◌==◌, nat_eq, List, [], ◌∷◌, refl, sym, ◌∙◌, ap, arith}
use Rattle.std.proofs.lemmas.Bool.{cases_Bool}
use Rattle.std.proofs.lemmas.Bool.Decides.{nat_tests}
use Rattle.std.specs.BTreeMap.Range.{range_contains}
use Rattle.std.specs.Cmp.Lexicographic.{slice_cmp}
use Rattle.std.specs.List.{AllByRecursion, filter, list_any, starts_with}
use Rattle.std.specs.List.Sorted.{IsStrictlySortedBy}
use Rattle.std.specs.Map.{keys_of}
use Rattle.std.specs.Ordering.{nat_cmp, is_le, ordering_then}
use Rattle.std.specs.declared.cmp.Ordering.{Ordering}
use Rattle.std.specs.declared.cmp.Ordering.TheVariants.{Less, Equal, Greater}
use Rattle.std.specs.declared.ops.Bound.TheVariants.{Included, Unbounded}
use Rattle.change_rel.specs.cny-base.Below.{begins_with}
use Rattle.local_db.specs.tree-disk.Tree.{Name}
use Rattle.past_jobs.specs.declared.found.FoundMark.{FoundMark}
use Rattle.tree_scan.proofs.tree-disk.Order.{name_cmp}
use Rattle.tree_scan.proofs.tree-disk.Nodes.{left_true as and_first}
use Rattle.tree_scan.proofs.tree-disk.Laws.{second as and_second}
use Rattle.change_rel.proofs.cny-base.Below.{test_equal as nat_means, same_cmp as nat_same}

pub starts_same : (d q : Name) → starts_with nat_eq q d ≡ begins_with d q
starts_same [] q = refl
starts_same (a ∷ d) [] = refl
starts_same (a ∷ d) (b ∷ q) = ap (λ r. (a == b) && r) (starts_same d q)

-- ---- the order of names

nat_more : (x y : ℕ) → nat_cmp x y ≡ Less → nat_cmp y x ≡ Greater
nat_more x y less = grind (arith, nat_tests)

nat_equal : (x y : ℕ) → nat_cmp x y ≡ Equal → x ≡ y
nat_equal x y is = grind (arith, nat_tests)

-- a name that begins with another doesn't come before it
begun_behind : (d q : Name) → begins_with d q ≡ true → is_le (name_cmp d q) ≡ true
begun_behind [] [] is = refl
begun_behind [] (b ∷ q) is = refl
begun_behind (a ∷ d) [] is = absurd (cc is)
begun_behind (a ∷ d) (b ∷ q) is =
    let same = nat_means a b (and_first (a == b) (begins_with d q) is) in
    ap (λ o. is_le (ordering_then o (name_cmp d q))) (ap (nat_cmp a) (sym same) ∙ nat_same a)
    ∙ begun_behind d q (and_second (a == b) (begins_with d q) is)

-- behind a name that doesn't come before another and doesn't begin with it, none begins with it
none_begun : (d a b : Name) → is_le (name_cmp d a) ≡ true → begins_with d a ≡ false → name_cmp a b ≡ Less → begins_with d b ≡ true → ⊥
none_begun [] a b le fails less is = absurd (cc fails)
none_begun (x ∷ d) [] b le fails less is = absurd (cc le)
none_begun (x ∷ d) (y ∷ a) [] le fails less is = absurd (cc is)
none_begun (x ∷ d) (y ∷ a) (z ∷ b) le fails less is =
    by (nat_cmp x y) refl (none_begun d a b) le
  where
    same : x ≡ z
    same = nat_means x z (and_first (x == z) (begins_with d b) is)

    by : (o : Ordering) → nat_cmp x y ≡ o → (is_le (name_cmp d a) ≡ true → begins_with d a ≡ false → name_cmp a b ≡ Less → begins_with d b ≡ true → ⊥)
        → is_le (ordering_then o (name_cmp d a)) ≡ true → ⊥
    by Less before later le =
        let turn : nat_cmp y z ≡ Greater = ap (nat_cmp y) (sym same) ∙ nat_more x y before in
        absurd (cc (sym less ∙ ap (λ o. ordering_then o (name_cmp a b)) turn))
    by Equal equal later le =
        let here : x ≡ y = nat_equal x y equal in
        let turn : nat_cmp y z ≡ Equal = ap (nat_cmp y) (sym same ∙ here) ∙ nat_same y in
        later le
        (ap (λ c. c && begins_with d a) (sym (test x y here)) ∙ fails)
        (ap (λ o. ordering_then o (name_cmp a b)) (sym turn) ∙ less)
        (and_second (x == z) (begins_with d b) is)
      where
        test : (m n : ℕ) → m ≡ n → (m == n) ≡ true
        test m n is = grind (arith, nat_tests)
    by Greater after later le = absurd (cc le)

-- ---- entries from a name on

abbrev pub AreFrom : Name → List (Name × FoundMark) → Type 0
AreFrom d [] = Unit {0}
AreFrom d (x ∷ xs) = (is_le (name_cmp d x.0) ≡ true) × (AllByRecursion (λ (k : Name). name_cmp x.0 k ≡ Less) (keys_of xs)) × AreFrom d xs

filtered : (F : Name × FoundMark → Bool) (p : Name) (xs : List (Name × FoundMark)) → AllByRecursion (λ (k : Name). name_cmp p k ≡ Less) (keys_of xs) → AllByRecursion (λ (k : Name). name_cmp p k ≡ Less) (keys_of (filter F xs))
filtered F p [] all = tt
filtered F p (x ∷ xs) all = at (F x) (filtered F p xs all.1)
  where
    at : (b : Bool) → AllByRecursion (λ (k : Name). name_cmp p k ≡ Less) (keys_of (filter F xs)) → AllByRecursion (λ (k : Name). name_cmp p k ≡ Less) (keys_of (cond b (x ∷ filter F xs) (filter F xs)))
    at true later = (all.0, later)
    at false later = later

abbrev from_on : Name → Name × FoundMark → Bool
from_on d x = range_contains (slice_cmp nat_cmp) (Included d) Unbounded x.0

pub from_sorted : (d : Name) (xs : List (Name × FoundMark)) → IsStrictlySortedBy (slice_cmp nat_cmp) (keys_of xs) → AreFrom d (filter (λ e. range_contains (slice_cmp nat_cmp) (Included d) Unbounded e.0) xs)
unfolding IsStrictlySortedBy
from_sorted d [] sorted = tt
from_sorted d (x ∷ xs) sorted = at (from_on d x) refl (from_sorted d xs sorted.1)
  where
    at : (b : Bool) → from_on d x ≡ b → AreFrom d (filter (from_on d) xs) → AreFrom d (cond b (x ∷ filter (from_on d) xs) (filter (from_on d) xs))
    at true is later = (and_first (is_le (name_cmp d x.0)) true is, filtered (from_on d) x.0 xs sorted.0, later)
    at false is later = later

-- what passes is among the entries from the name on
any_filtered : (T F : Name × FoundMark → Bool) → ((x : Name × FoundMark) → T x ≡ true → F x ≡ true) → (xs : List (Name × FoundMark)) → list_any T (filter F xs) ≡ list_any T xs
any_filtered T F within [] = refl
any_filtered T F within (x ∷ xs) = at (F x) refl (T x) refl (any_filtered T F within xs)
  where
    at : (b : Bool) → F x ≡ b → (t : Bool) → T x ≡ t → list_any T (filter F xs) ≡ list_any T xs → list_any T (cond b (x ∷ filter F xs) (filter F xs)) ≡ (t || list_any T xs)
    at true here t is later = ap (λ c. c || list_any T (filter F xs)) is ∙ ap (λ c. t || c) later
    at false out false is later = later
    at false out true is later = absurd (cc (within x is, out))

begun_from : (d k : Name) → begins_with d k ≡ true → (is_le (name_cmp d k) && true) ≡ true
begun_from d k is = ap (λ b. b && true) (begun_behind d k is)

pub any_from : (d : Name) (P : Name × FoundMark → Bool) (xs : List (Name × FoundMark)) → list_any (λ x. begins_with d x.0 && P x) xs ≡ list_any (λ x. begins_with d x.0 && P x) (filter (λ e. range_contains (slice_cmp nat_cmp) (Included d) Unbounded e.0) xs)
any_from d P xs = sym (any_filtered (λ x. begins_with d x.0 && P x) (from_on d) (λ x is. begun_from d x.0 (and_first (begins_with d x.0) (P x) is)) xs)

none_later : (d p : Name) (P : Name × FoundMark → Bool) (xs : List (Name × FoundMark)) → is_le (name_cmp d p) ≡ true → begins_with d p ≡ false → AllByRecursion (λ (k : Name). name_cmp p k ≡ Less) (keys_of xs)
    → list_any (λ x. begins_with d x.0 && P x) xs ≡ false
none_later d p P [] le fails all = refl
none_later d p P (x ∷ xs) le fails all = ap (λ b. (b && P x) || list_any (λ x. begins_with d x.0 && P x) xs) not_begun ∙ none_later d p P xs le fails all.1
  where
    not_begun : begins_with d x.0 ≡ false
    not_begun = ⊎_elim (λ is. absurd (none_begun d p x.0 le fails all.0 is)) (λ o. o) (cases_Bool (begins_with d x.0))

-- ---- one entry of the loop

pub stops_at : (d : Name) (P : Name × FoundMark → Bool) (x : Name × FoundMark) (xs : List (Name × FoundMark)) → AreFrom d (x ∷ xs) → begins_with d x.0 ≡ false → list_any (λ x. begins_with d x.0 && P x) (x ∷ xs) ≡ false
stops_at d P x xs are fails = ap (λ b. (b && P x) || list_any (λ x. begins_with d x.0 && P x) xs) fails ∙ none_later d x.0 P xs are.0 fails are.1

pub goes_on : (d : Name) (P : Name × FoundMark → Bool) (x : Name × FoundMark) (xs : List (Name × FoundMark)) → P x ≡ false → list_any (λ x. begins_with d x.0 && P x) (x ∷ xs) ≡ list_any (λ x. begins_with d x.0 && P x) xs
goes_on d P x xs fails = at (begins_with d x.0) (P x) fails
  where
    at : (b c : Bool) → c ≡ false → ((b && c) || list_any (λ x. begins_with d x.0 && P x) xs) ≡ list_any (λ x. begins_with d x.0 && P x) xs
    at true c none = ap (λ c. c || list_any (λ x. begins_with d x.0 && P x) xs) none
    at false c none = refl

pub hits : (d : Name) (P : Name × FoundMark → Bool) (x : Name × FoundMark) (xs : List (Name × FoundMark)) → begins_with d x.0 ≡ true → P x ≡ true → list_any (λ x. begins_with d x.0 && P x) (x ∷ xs) ≡ true
hits d P x xs begun is = ap (λ b. (b && P x) || list_any (λ x. begins_with d x.0 && P x) xs) begun ∙ ap (λ b. b || list_any (λ x. begins_with d x.0 && P x) xs) is
