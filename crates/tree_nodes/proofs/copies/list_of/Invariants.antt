use Rattle.std.proofs.Common.{◌≡◌, true, List, map, String}
use Rattle.std.specs.declared.alloc.Global.{Global}
use Rattle.std.specs.List.{AllByRecursion}
use Rattle.std.specs.Map.Iter.{deref_pair}
use Rattle.tree_disk.specs.cny-base.Path.{is_path}
use Rattle.tree_disk.specs.cny-base.declared.node.Node.{Node}
use Rattle.tree_disk.specs.Tree.{Name}
use Rattle.tree_nodes.specs.Stored.{by_bytes}
use Rattle.tree_nodes.proofs.Children.{texts}
use Rattle.tree_nodes.proofs.copies.list_of.Given as goal

pub record ListedSoFar (list : List (Name × Node)) (done rest : List (String Global × Node)) : Type 0 where
  pub same : list ≡ by_bytes done
  pub paths : AllByRecursion (λ q. is_path q ≡ true) (texts rest)

abbrev pub invariant-loop-name : goal.invariant-loop-name
invariant-loop-name l = ListedSoFar l.list.items (map deref_pair l.yielded) l.name-iterator
