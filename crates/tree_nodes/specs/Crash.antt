-- Which crash image a number picks.
use Rattle.std.specs.Prelude.{◌≡◌, ℕ, zero, suc, ◌+◌, ◌/◌, ◌%◌, Bool, ◌&&◌, ◌||◌, not, IsTrue, List, [], ◌∷◌, Option, Some, None, cond, ◌==◌}
use Rattle.std.specs.Ordering.{nat_cmp, eq_by_cmp}
use Rattle.std.specs.Cmp.Lexicographic.{slice_cmp}
use Rattle.std.specs.List.{list_any}
use Rattle.std.specs.List.Sorted.{IsStrictlySortedBy}
use Rattle.std.specs.FinMap.{get, keys}
use Rattle.tree_disk.specs.cny-base.Path.{root, parent}
use Rattle.tree_disk.specs.cny-base.Below.{is_below}
use Rattle.tree_disk.specs.cny-base.declared.node.Node.{Node}
use Rattle.tree_disk.specs.cny-base.declared.node.Node.TheVariants.{File}
use Rattle.tree_disk.specs.Tree.{Name, Tree, same_name, put, is_dir, may_stand}

-- each node is one that a disk can hold
abbrev pub HoldsNodes : Tree → Type 0
HoldsNodes t = (p : Name) → IsTrue (may_stand (get t p))

-- a number without its last j digits in base 4
abbrev pub without_digits : ℕ → ℕ → ℕ
without_digits pick zero = pick
without_digits pick (suc j) = without_digits pick j / 4

-- its digit k mod 32, counted from the last
abbrev pub digit : ℕ → ℕ → ℕ
digit pick k = without_digits pick (k % 32) % 4

-- a file of mode 0600 and three bytes EE
abbrev pub torn : Node
torn = File 384 (238 ∷ 238 ∷ 238 ∷ [])

-- what a digit means at a name: as it reads, as at the last sync, nothing, a torn file
abbrev pub meant : (reads synced : Tree) → ℕ → Name → Option Node
meant reads synced d p = cond (d == 0) (get reads p) (cond (d == 1) (get synced p) (cond (d == 2) None (Some torn)))

-- `/`, or a name above a standing one that isn't unsynced
abbrev pub is_held : (reads : Tree) (unsynced : Name → Bool) → Name → Bool
is_held reads unsynced p = same_name p root || list_any (λ q. not (unsynced q) && is_below p q) (keys reads)

-- what stands at an unsynced name: a digit that gives no directory counts as 0 where the name is held
abbrev pub picked : (reads synced : Tree) (unsynced : Name → Bool) → ℕ → Name → Option Node
picked reads synced unsynced d p = cond (is_held reads unsynced p && not (is_dir (meant reads synced d p))) (get reads p) (meant reads synced d p)

-- the unsynced names in order, from the k-th on; one whose parent isn't a directory is dropped
abbrev pub left_by : (reads synced : Tree) (unsynced : Name → Bool) (pick k : ℕ) → List Name → Tree → Tree
left_by reads synced unsynced pick k [] t = t
left_by reads synced unsynced pick k (p ∷ names) t =
    left_by reads synced unsynced pick (k + 1) names (put t p (cond (is_dir (get t (parent p))) (picked reads synced unsynced (digit pick k) p) None))

-- all the names that pass a test, in path order
pub record AreInOrder (test : Name → Bool) (names : List Name) : Type 0 where
  pub sorted : IsStrictlySortedBy (slice_cmp nat_cmp) names
  pub all : (p : Name) → list_any (eq_by_cmp (slice_cmp nat_cmp) p) names ≡ test p

-- the image that a number picks
pub record IsPicked (reads synced : Tree) (unsynced : Name → Bool) (pick : ℕ) (t : Tree) : Type 0 where
  pub names : List Name
  pub in_order : AreInOrder unsynced names
  pub image : t ≡ left_by reads synced unsynced pick 0 names reads
