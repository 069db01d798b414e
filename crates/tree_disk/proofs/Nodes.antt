-- The nodes that a disk can hold, and what is known of what stands in a tree.
use Rattle.std.specs.Prelude.{◌≡◌, ℕ, ◌≤◌, Bool, true, false, ◌&&◌, List, ◌++◌, Option, Some, None, nat_le, refl}
use Rattle.std.proofs.Common.{sym, ◌∙◌, ap, arith}
use Rattle.std.proofs.lemmas.Bool.Decides.{nat_tests}
use Rattle.std.proofs.lemmas.List.Folds.{list_all-append}
use Rattle.std.specs.List.{list_all}
use Rattle.std.specs.FinMap.{get}
use Rattle.cny_base.specs.Target.{is_target}
use Rattle.cny_base.specs.declared.node.Node.{Node}
use Rattle.cny_base.specs.declared.node.Node.TheVariants.{Dir, File, Link}
use Rattle.tree_disk.specs.Tree.{Name, Tree, is_byte, is_node, may_stand, WellFormed}
use Rattle.tree_disk.specs.Rows.{grown}
use Rattle.cny_base.proofs.Bools.{both as both_true}
use Rattle.tree_disk.proofs.Laws.{second as right_true}

pub left_true : (x y : Bool) → (x && y) ≡ true → x ≡ true
left_true true y h = refl
left_true false y h = h

pub is_node-File : (mode : ℕ) (bytes : List ℕ) → mode ≤ 4095 → list_all is_byte bytes ≡ true → is_node (File mode bytes) ≡ true
unfolding is_node
is_node-File mode bytes small all = both_true (nat_le mode 4095) (list_all is_byte bytes) (grind (arith, nat_tests)) all

pub is_node-Link : (target : List ℕ) → is_target target ≡ true → is_node (Link target) ≡ true
unfolding is_node
is_node-Link target is = is

pub mode-File : (mode : ℕ) (bytes : List ℕ) → is_node (File mode bytes) ≡ true → mode ≤ 4095
unfolding is_node
mode-File mode bytes is = let small : nat_le mode 4095 ≡ true = left_true (nat_le mode 4095) (list_all is_byte bytes) is in grind (arith, nat_tests)

pub bytes-File : (mode : ℕ) (bytes : List ℕ) → is_node (File mode bytes) ≡ true → list_all is_byte bytes ≡ true
unfolding is_node
bytes-File mode bytes is = right_true (nat_le mode 4095) (list_all is_byte bytes) is

-- a file with more bytes
pub grown_node : (o : Option Node) (more : List ℕ) → may_stand o ≡ true → list_all is_byte more ≡ true → is_node (grown o more) ≡ true
grown_node None more stood all = is_node-File 384 more (omega arith) all
grown_node (Some (Dir mode)) more stood all = is_node-File 384 more (omega arith) all
grown_node (Some (File mode bytes)) more stood all =
    is_node-File mode (bytes ++ more) (mode-File mode bytes stood)
    (list_all-append is_byte bytes more ∙ both_true _ _ (bytes-File mode bytes stood) all)
grown_node (Some (Link target)) more stood all = is_node-File 384 more (omega arith) all

-- the bytes that were added
pub grown_bytes : (o : Option Node) (more : List ℕ) → is_node (grown o more) ≡ true → list_all is_byte more ≡ true
grown_bytes None more is = bytes-File 384 more is
grown_bytes (Some (Dir mode)) more is = bytes-File 384 more is
grown_bytes (Some (File mode bytes)) more is = right_true _ _ (sym (list_all-append is_byte bytes more) ∙ bytes-File mode (bytes ++ more) is)
grown_bytes (Some (Link target)) more is = bytes-File 384 more is

-- what stands in a tree is one
pub stands_node : (t : Tree) (p : Name) (node : Node) → WellFormed t → get t p ≡ Some node → is_node node ≡ true
stands_node t p node well is = sym (ap may_stand is) ∙ well.nodes p
