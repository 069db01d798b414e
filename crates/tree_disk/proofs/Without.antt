-- A tree without what stands at a path.
use Rattle.std.proofs.Common.{Bool, None, ap, cond, false, ◌∙◌, ◌≡◌}
use Rattle.std.specs.FinMap.{get}
use Rattle.tree_disk.proofs.ClearLaws.{get-without_tree}
use Rattle.tree_disk.specs.Clear.{is_within, without_tree}
use Rattle.tree_disk.specs.Tree.{Name, Tree}

pub elsewhere : (t : Tree) (p q : Name) → is_within p q ≡ false → get (without_tree t p) q ≡ get t q
elsewhere t p q other = get-without_tree t p q ∙ ap (λ (b : Bool). cond b None (get t q)) other
