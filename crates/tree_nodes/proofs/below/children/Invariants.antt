use Rattle.std.proofs.Common.{◌≡◌, map}
use Rattle.std.specs.Map.Iter.{deref_pair}
use Rattle.tree_nodes.proofs.Children.{listed}
use Rattle.tree_nodes.proofs.below.children.Given as goal

abbrev pub invariant-loop-name : goal.invariant-loop-name
invariant-loop-name l = l.found.items ≡ listed l.dir (map deref_pair l.yielded)
