-- The lists that are a tree.
use Rattle.std.specs.Prelude.{◌≡◌, Bool, true, ◌&&◌, List, [], ◌∷◌}
use Rattle.std.specs.Ordering.{nat_cmp, is_lt}
use Rattle.std.specs.Cmp.Lexicographic.{slice_cmp}
use Rattle.std.specs.FinMap.{get, from_entries}
use Rattle.tree_disk.specs.cny-base.declared.node.Node.{Node}
use Rattle.tree_disk.specs.cny-base.Path.{is_path, parent}
use Rattle.tree_disk.specs.Tree.{Name, Tree, is_dir, is_node, WellFormed}

abbrev pub rise_after : Name → List (Name × Node) → Bool
rise_after p [] = true
rise_after p (e ∷ es) = is_lt (slice_cmp nat_cmp p e.0) && rise_after e.0 es

-- whether the paths strictly rise
abbrev pub rise : List (Name × Node) → Bool
rise [] = true
rise (e ∷ es) = rise_after e.0 es

-- a tree: the paths strictly rise, `/` is a directory, and so is the parent of every other path
pub record IsTree (nodes : List (Name × Node)) : Type 0 where
  pub rises : rise nodes ≡ true
  pub well_formed : WellFormed (from_entries nodes)

-- a node's name is a path, and its parent is a directory
abbrev pub stands_right : Tree → Name × Node → Bool
stands_right t e = is_path e.0 && is_dir (get t (parent e.0))

-- a node that a disk can hold
abbrev pub holds : Name × Node → Bool
holds e = is_node e.1
