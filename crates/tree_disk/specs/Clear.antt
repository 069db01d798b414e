-- A name and all names below it.
use Rattle.std.specs.Prelude.{◌≡◌, ℕ, Bool, ◌||◌, IsTrue, List, [], ◌∷◌, None}
use Rattle.std.specs.List.{filter}
use Rattle.std.specs.FinMap.{get, keys}
use Rattle.cny_base.specs.Path.{join}
use Rattle.cny_base.specs.Below.{is_below}
use Rattle.tree_disk.specs.Tree.{Name, Tree, same_name}
use Rattle.tree_disk.specs.Rows.{without}

-- whether q is p, which isn't `/`, or lies below it
abbrev pub is_within : Name → Name → Bool
is_within p q = same_name q p || is_below p q

-- nothing stands at the path and below it
abbrev pub IsBare : Tree → Name → Type 0
IsBare t p = (q : Name) → IsTrue (is_within p q) → get t q ≡ None

abbrev pub without_names : Tree → List Name → Tree
without_names t [] = t
without_names t (n ∷ names) = without_names (without t n) names

-- the tree without a name and all names below it
abbrev pub without_tree : Tree → Name → Tree
without_tree t p = without_names t (filter (is_within p) (keys t))

-- the tree without these names directly below a path, and all names below them
abbrev pub without_each : Tree → Name → List (List ℕ) → Tree
without_each t p [] = t
without_each t p (last ∷ names) = without_each (without_tree t (join p last)) p names
