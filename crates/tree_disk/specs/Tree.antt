-- A tree: a map from paths to nodes. A path is the list of its bytes.
use Rattle.std.specs.Prelude.{◌≡◌, ℕ, Bool, true, false, ◌&&◌, not, IsTrue, List, map, Option, Some, None, is_some, nat_le, nat_lt}
use Rattle.std.specs.Ordering.{nat_cmp, eq_by_cmp}
use Rattle.std.specs.Cmp.Lexicographic.{slice_cmp}
use Rattle.std.specs.List.{filter, list_all}
use Rattle.std.specs.FinMap.{FinMap, get, insert, remove, keys}
use Rattle.cny_base.specs.Path.{is_path, root, parent, last_name}
use Rattle.cny_base.specs.Target.{is_target}
use Rattle.cny_base.specs.declared.node.Node.{Node}
use Rattle.cny_base.specs.declared.node.Node.TheVariants.{Dir, File, Link}

abbrev pub Name : Type 0
Name = List ℕ

abbrev pub Tree : Type 0
Tree = FinMap (slice_cmp nat_cmp) Node

-- whether two names are the same
abbrev pub same_name : Name → Name → Bool
same_name p q = eq_by_cmp (slice_cmp nat_cmp) p q

-- the tree with this node, or with none, at a path
abbrev pub put : Tree → Name → Option Node → Tree
put t p (Some node) = insert t p node
put t p None = remove t p

abbrev pub is_dir : Option Node → Bool
is_dir (Some (Dir mode)) = true
is_dir _ = false

abbrev pub is_file : Option Node → Bool
is_file (Some (File mode bytes)) = true
is_file _ = false

abbrev pub is_link : Option Node → Bool
is_link (Some (Link target)) = true
is_link _ = false

abbrev pub is_child : Name → Name → Bool
is_child p q = not (same_name q root) && same_name (parent q) p

-- The last names of a path's children, in the order of their bytes. (The keys are in the order of theirs, and the
-- children of one path have all bytes before their last names in common.)
abbrev pub children : Tree → Name → List (List ℕ)
children t p = map last_name (filter (is_child p) (keys t))

-- whether a number is a byte
abbrev pub is_byte : ℕ → Bool
is_byte b = nat_lt b 256

-- The nodes that a disk can hold: a mode is at most 4095, a file's contents are bytes, and a link's target is one by its
-- grammar.
unfoldable pub is_node : Node → Bool
is_node (Dir mode) = nat_le mode 4095
is_node (File mode bytes) = nat_le mode 4095 && list_all is_byte bytes
is_node (Link target) = is_target target

-- nothing, or such a node
abbrev pub may_stand : Option Node → Bool
may_stand None = true
may_stand (Some node) = is_node node

-- Every name is a path, `/` is a directory, and so is the parent of every other path (that of `/` is `/` itself); each
-- node is one that a disk can hold.
pub record WellFormed (t : Tree) : Type 0 where
  pub paths : (p : Name) → IsTrue (is_some (get t p)) → IsTrue (is_path p)
  pub root_stands : IsTrue (is_dir (get t root))
  pub parents : (p : Name) → IsTrue (is_some (get t p)) → IsTrue (is_dir (get t (parent p)))
  pub nodes : (p : Name) → IsTrue (may_stand (get t p))

-- two trees are equal at every name that isn't one of these
abbrev pub AgreesOutside : (Name → Bool) → Tree → Tree → Type 0
AgreesOutside names t u = (p : Name) → names p ≡ false → get t p ≡ get u p
