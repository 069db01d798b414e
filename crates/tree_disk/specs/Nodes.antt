-- A directory is a node that a disk can hold.
use Rattle.std.specs.Prelude.{◌≡◌, ℕ, ◌≤◌, true}
use Rattle.std.proofs.Common.{arith}
use Rattle.std.proofs.lemmas.Bool.Decides.{nat_tests}
use Rattle.cny_base.specs.declared.node.Node.TheVariants.{Dir}
use Rattle.tree_disk.specs.Tree.{is_node}

pub is_node-Dir : (mode : ℕ) → mode ≤ 4095 → is_node (Dir mode) ≡ true
unfolding is_node
is_node-Dir mode small = grind (arith, nat_tests)
