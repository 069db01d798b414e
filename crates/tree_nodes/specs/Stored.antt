-- The tree that a map from texts to nodes stands for.
use Rattle.std.specs.Prelude.{List, map, String, string_bytes}
use Rattle.std.specs.declared.alloc.Global.{Global}
use Rattle.std.specs.FinMap.{from_entries}
use Rattle.tree_disk.specs.cny-base.declared.node.Node.{Node}
use Rattle.tree_disk.specs.Tree.{Name, Tree}

-- the entries, with each key as its bytes
abbrev pub by_bytes : List (String Global × Node) → List (Name × Node)
by_bytes entries = map (λ e. (string_bytes e.0, e.1)) entries

abbrev pub tree_of : List (String Global × Node) → Tree
tree_of entries = from_entries (by_bytes entries)
