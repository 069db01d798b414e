-- The names below a directory, in the order of all names.
use Rattle.std.specs.Prelude.{ℕ, Bool, cond, List, [], ◌∷◌, ◌++◌, String, string_bytes}
use Rattle.std.specs.declared.alloc.Global.{Global}
use Rattle.std.specs.List.{filter}
use Rattle.tree_disk.specs.cny-base.Path.{root}
use Rattle.tree_disk.specs.cny-base.Below.{begins_with}
use Rattle.tree_disk.specs.cny-base.declared.node.Node.{Node}
use Rattle.tree_disk.specs.Tree.{Name, same_name}

-- what stands before the slash in the names below a directory: nothing for `/`
abbrev pub front : Name → List ℕ
front p = cond (same_name p root) [] p

-- whether a name begins with a directory's path and a slash
abbrev pub has_prefix : Name → Name → Bool
has_prefix p q = begins_with (front p ++ 47 ∷ []) q

-- the entries with such names
abbrev pub entries_with_prefix : Name → List (String Global × Node) → List (String Global × Node)
entries_with_prefix p entries = filter (λ e. has_prefix p (string_bytes e.0)) entries
