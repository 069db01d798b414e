-- The unsynced names, one after another, as the code goes over them.
use Rattle.std.proofs.Common.{◌≡◌, ℕ, ◌+◌, ◌/◌, ◌%◌, suc, zero, List, [], ◌∷◌, map, cond, Bool, true, false, ◌||◌, Option, None, Some, is_some, refl, sym, ◌∙◌, ap, string_bytes, String, Result, Ok, Err, OnOk}
use Rattle.std.specs.declared.alloc.Global.{Global}
use Rattle.std.specs.List.{list_any, AllByRecursion}
use Rattle.std.specs.List.Sorted.{IsStrictlySortedBy}
use Rattle.std.specs.Ordering.{nat_cmp, eq_by_cmp}
use Rattle.std.specs.Cmp.Lexicographic.{slice_cmp}
use Rattle.std.specs.String.{string_cmp}
use Rattle.std.specs.BTreeMap.{is_at}
use Rattle.std.specs.BTreeSet.{BTreeSet, contains_text}
use Rattle.std.specs.declared.cmp.Ordering.TheVariants.{Less}
use Rattle.std.specs.FinMap.{get}
use Rattle.tree_disk.specs.cny-base.Path.{parent}
use Rattle.tree_disk.specs.cny-base.declared.node.Node.{Node}
use Rattle.tree_disk.specs.Tree.{Name, Tree, same_name, put, is_dir, may_stand, WellFormed}
use Rattle.tree_disk.specs.Laws.{get_put}
use Rattle.tree_nodes.proofs.StoredTree.{put_same}
use Rattle.tree_nodes.specs.Crash.{left_by, picked, digit, without_digits, AreInOrder, HoldsNodes}

abbrev pub bytes_of : List (String Global) → List Name
bytes_of ks = map (λ k. string_bytes k) ks

pub record LeftSoFar (reads synced : Tree) (unsynced : Name → Bool) (pick place done : ℕ) (rest all : List (String Global)) (t first : Tree) : Type 0 where
  pub places : place ≡ done
  pub same : left_by reads synced unsynced pick place (bytes_of rest) t ≡ left_by reads synced unsynced pick 0 (bytes_of all) first
  pub nodes : HoldsNodes first → HoldsNodes t

-- one node more that a disk can hold
pub put_nodes : {E : Type 0} (t u : Tree) (p : Name) (o : Option Node) (r : Result (Unit {0}) E) → OnOk r (u ≡ put t p o) → may_stand o ≡ true → HoldsNodes t → OnOk r (HoldsNodes u)
put_nodes t u p o (Ok x) is stands hold = λ q. ap (λ (v : Tree). may_stand (get v q)) is ∙ ap may_stand (get_put t p o q) ∙ by q (same_name q p)
  where
    by : (q : Name) (b : Bool) → may_stand (cond b o (get t q)) ≡ true
    by q true = stands
    by q false = hold q
put_nodes t u p o (Err e) is stands hold = tt

-- ---- the names of the set, in order

any_bytes : (p : Name) (ks : List (String Global)) → list_any (is_at (λ k. slice_cmp nat_cmp p (string_bytes k))) ks ≡ list_any (eq_by_cmp (slice_cmp nat_cmp) p) (bytes_of ks)
any_bytes p [] = refl
any_bytes p (k ∷ ks) = ap (λ b. eq_by_cmp (slice_cmp nat_cmp) p (string_bytes k) || b) (any_bytes p ks)

all_bytes : (k : String Global) (ks : List (String Global)) → AllByRecursion (λ y. string_cmp k y ≡ Less) ks → AllByRecursion (λ y. slice_cmp nat_cmp (string_bytes k) y ≡ Less) (bytes_of ks)
all_bytes k [] all = tt
all_bytes k (j ∷ ks) all = (all.0, all_bytes k ks all.1)

sorted_bytes : (ks : List (String Global)) → IsStrictlySortedBy string_cmp ks → IsStrictlySortedBy (slice_cmp nat_cmp) (bytes_of ks)
unfolding IsStrictlySortedBy
sorted_bytes [] sorted = tt
sorted_bytes (k ∷ ks) sorted = (all_bytes k ks sorted.0, sorted_bytes ks sorted.1)

pub in_order : (set : BTreeSet (String Global)) → IsStrictlySortedBy string_cmp set.keys → AreInOrder (contains_text set) (bytes_of set.keys)
in_order set sorted = record { sorted = sorted_bytes set.keys sorted; all = λ p. sym (any_bytes p set.keys) }

-- ---- pick 0 leaves what is read

no_digits : (j : ℕ) → without_digits 0 j ≡ 0
no_digits zero = refl
no_digits (suc j) = ap (λ (n : ℕ). n / 4) (no_digits j)

digit_zero : (k : ℕ) → digit 0 k ≡ 0
digit_zero k = ap (λ (n : ℕ). n % 4) (no_digits (k % 32))

same_both : (b : Bool) (o : Option Node) → cond b o o ≡ o
same_both true o = refl
same_both false o = refl

stood : (o : Option Node) (dir : Bool) → (is_some o ≡ true → dir ≡ true) → cond dir o None ≡ o
stood None true up = refl
stood None false up = refl
stood (Some node) true up = refl
stood (Some node) false up = absurd (cc (up refl))

pub left_zero : (reads synced : Tree) (unsynced : Name → Bool) (k : ℕ) (names : List Name) → WellFormed reads → left_by reads synced unsynced 0 k names reads ≡ reads
left_zero reads synced unsynced k [] well = refl
left_zero reads synced unsynced k (p ∷ names) well =
    ap (left_by reads synced unsynced 0 (k + 1) names)
    (ap (λ o. put reads p (cond (is_dir (get reads (parent p))) o None)) here
    ∙ put_same reads p _ (sym (stood (get reads p) (is_dir (get reads (parent p))) (well.parents p))))
    ∙ left_zero reads synced unsynced (k + 1) names well
  where
    here : picked reads synced unsynced (digit 0 k) p ≡ get reads p
    here = ap (λ d. picked reads synced unsynced d p) (digit_zero k) ∙ same_both _ (get reads p)
