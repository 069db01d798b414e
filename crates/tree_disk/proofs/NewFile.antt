-- A file that is made by an append and gets its mode.
use Rattle.std.proofs.Common.{◌≡◌, ℕ, true, not, ◌||◌, List, Option, Some, None, is_some, refl, ◌∙◌, ap}
use Rattle.std.specs.FinMap.{get}
use Rattle.cny_base.specs.declared.node.Node.{Node}
use Rattle.cny_base.specs.declared.node.Node.TheVariants.{File}
use Rattle.tree_disk.specs.Tree.{Name, Tree, put, is_dir, is_file}
use Rattle.tree_disk.specs.Rows.{can_make, can_set_mode, grown, of_mode, with_append, with_mode, with_node}
use Rattle.tree_disk.proofs.Laws.{get_put_here, put_put, second as right_true}

none_there : (o : Option Node) → not (is_some o) ≡ true → o ≡ None
none_there None h = refl
none_there (Some node) h = absurd (cc h)

nothing_there : (t : Tree) (p : Name) → can_make t p ≡ true → get t p ≡ None
nothing_there t p can = none_there (get t p) (right_true _ _ can)

-- the file as the append leaves it
appended : (t : Tree) (p : Name) (bytes : List ℕ) → can_make t p ≡ true → get (with_append t p bytes) p ≡ Some (File 384 bytes)
appended t p bytes can = get_put_here t p (Some (grown (get t p) bytes)) ∙ ap (λ o. Some (grown o bytes)) (nothing_there t p can)

pub may_set_mode : (t : Tree) (p : Name) (bytes : List ℕ) → can_make t p ≡ true → can_set_mode (with_append t p bytes) p ≡ true
may_set_mode t p bytes can = ap (λ o. is_dir o || is_file o) (appended t p bytes can)

pub with_file : (t : Tree) (p : Name) (mode : ℕ) (bytes : List ℕ) → can_make t p ≡ true → with_mode (with_append t p bytes) p mode ≡ with_node t p (File mode bytes)
with_file t p mode bytes can =
    ap (λ o. put (with_append t p bytes) p (of_mode o mode)) (appended t p bytes can) ∙ put_put t p (Some (grown (get t p) bytes)) (Some (File mode bytes))
