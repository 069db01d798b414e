use Rattle.std.proofs.Common.{◌≡◌, ◌≤◌, ℕ, List, length, drop}
use Rattle.std.specs.FinMap.{from_entries}
use Rattle.tree_disk.specs.cny-base.declared.node.Node.{Node}
use Rattle.tree_disk.specs.Tree.{Name, Tree}
use Rattle.tree_nodes.proofs.map.NodeMap.from_list.Given as goal

pub record HoldsFrom (left : ℕ) (map : Tree) (nodes : List (Name × Node)) : Type 0 where
  pub within : left ≤ length nodes
  pub same : map ≡ from_entries (drop left nodes)

abbrev pub invariant-loop-left : goal.invariant-loop-left
invariant-loop-left l = HoldsFrom l.left l.map l.nodes

abbrev pub decreases-loop-left : goal.decreases-loop-left
decreases-loop-left l = l.left
