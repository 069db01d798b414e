-- What stands at a content's path, and what comes of putting one there.
use Rattle.std.proofs.Common.{◌≡◌, ℕ, Bool, true, false, not, ◌&&◌, ◌||◌, length, Option, Some, None, Ok, refl, sym, ◌∙◌, ap, subst}
use Rattle.std.specs.Prelude.{IsTrue}
use Rattle.std.specs.FinMap.{get}
use Rattle.tree_disk.specs.cny-base.Path.{parent}
use Rattle.tree_disk.specs.cny-base.declared.node.Node.{Node}
use Rattle.tree_disk.specs.cny-base.declared.node.Node.TheVariants as node
use Rattle.tree_disk.specs.declared.disk.Look.{Look}
use Rattle.tree_disk.specs.Tree.{Name, Tree, same_name, put, is_file, is_link}
use Rattle.tree_disk.specs.Rows.{bytes_at, bytes_of, can_append, can_rename, grown, is_dir_at, is_empty_at, is_file_at, look_of, seen_as, with_append, with_rename}
use Rattle.tree_disk.specs.Looks.{size_seen}
use Rattle.tree_disk.specs.Laws.{same_means}
use Rattle.tree_disk.proofs.Laws.{get_put_here, get_put_other}
use Rattle.content_store.specs.Difference.{first_difference}
use Rattle.content_store.specs.Store.{content_path, file_bytes}
use Rattle.content_store.specs.Outcome.{if_passed, move_names, move_outcome, placed, put_names, put_outcome, same_or_collision, CanPut}
use Rattle.content_store.proofs.Differences.{same_lists}

-- ---- by the size that is seen

sized_file : (o : Option Node) (size : ℕ) → size_seen (seen_as o) ≡ Some size → (is_file o ≡ true) × (length (bytes_of o) ≡ size)
sized_file None size is = absurd (cc is)
sized_file (Some (node.Dir mode)) size is = absurd (cc is)
sized_file (Some (node.File mode bytes)) size is = (refl, cc is)
sized_file (Some (node.Link target)) size is = absurd (cc is)

pub file_of_size : (tree : Tree) (p : Name) (look : Look) (size : ℕ) → look ≡ look_of tree p → size_seen look ≡ Some size
    → (is_file_at tree p ≡ true) × (length (bytes_at tree p) ≡ size)
file_of_size tree p look size seen is = sized_file (get tree p) size (ap size_seen (sym seen) ∙ is)

sizeless : (o : Option Node) → size_seen (seen_as o) ≡ None → is_file o ≡ false
sizeless None is = refl
sizeless (Some (node.Dir mode)) is = refl
sizeless (Some (node.File mode bytes)) is = absurd (cc is)
sizeless (Some (node.Link target)) is = refl

pub no_file_of_size : (tree : Tree) (p : Name) (look : Look) → look ≡ look_of tree p → size_seen look ≡ None → is_file_at tree p ≡ false
no_file_of_size tree p look seen is = sizeless (get tree p) (ap size_seen (sym seen) ∙ is)

-- ---- the bytes of a file

file_has : (o : Option Node) → is_file o ≡ true → file_bytes o ≡ Some (bytes_of o)
file_has None is = absurd (cc is)
file_has (Some (node.Dir mode)) is = absurd (cc is)
file_has (Some (node.File mode bytes)) is = refl
file_has (Some (node.Link target)) is = absurd (cc is)

pub bytes_stand : (tree : Tree) (p : Name) → is_file_at tree p ≡ true → file_bytes (get tree p) ≡ Some (bytes_at tree p)
bytes_stand tree p is = file_has (get tree p) is

no_file_has : (o : Option Node) → is_file o ≡ false → file_bytes o ≡ None
no_file_has None is = refl
no_file_has (Some (node.Dir mode)) is = refl
no_file_has (Some (node.File mode bytes)) is = absurd (cc is)
no_file_has (Some (node.Link target)) is = refl

pub no_bytes_stand : (tree : Tree) (p : Name) → is_file_at tree p ≡ false → file_bytes (get tree p) ≡ None
no_bytes_stand tree p is = no_file_has (get tree p) is

-- ---- what may be done

pub may_append : (tree : Tree) (dir p : Name) → CanPut tree dir p → parent p ≡ dir → can_append tree p ≡ true
may_append tree dir p can up = both (is_dir_at tree (parent p)) _ (ap (is_dir_at tree) up ∙ can.stands) can.free
  where
    both : (x y : Bool) → x ≡ true → y ≡ true → (x && y) ≡ true
    both true y left right = right
    both false y left right = absurd (cc left)

pub may_rename : (tree : Tree) (dir p from : Name) → CanPut tree dir p → parent p ≡ dir → is_file_at tree from ≡ true → is_file_at tree p ≡ false → can_rename tree from p ≡ true
may_rename tree dir p from can up file none =
    four (same_name from p) (is_file_at tree from) (is_link (get tree from)) (is_dir_at tree (parent p)) (is_empty_at tree p) (is_file_at tree p) (is_link (get tree p))
    (apart (same_name from p) refl) file (ap (is_dir_at tree) up ∙ can.stands) can.free none
  where
    apart : (v : Bool) → same_name from p ≡ v → same_name from p ≡ false
    apart true same = absurd (cc (ap (is_file_at tree) (same_means from p same), file, none))
    apart false same = same

    four : (s f l d e g m : Bool) → s ≡ false → f ≡ true → d ≡ true → (e || g) ≡ true → g ≡ false → (not s && ((f || l) && (d && (e || (g || m))))) ≡ true
    four true f l d e g m other file dir free none = absurd (cc other)
    four false false l d e g m other file dir free none = absurd (cc file)
    four false true l false e g m other file dir free none = absurd (cc dir)
    four false true l true true g m other file dir free none = refl
    four false true l true false g m other file dir free none = absurd (cc (free, none))

-- ---- what comes of it

pub put_over_file : (tree : Tree) (p name bytes : Name) → is_file_at tree p ≡ true
    → put_outcome p name bytes tree ≡ if_passed tree (same_or_collision name (first_difference (bytes_at tree p) bytes))
put_over_file tree p name bytes is = ap (placed (with_append tree p bytes) tree name bytes) (bytes_stand tree p is)

pub put_new_file : (tree : Tree) (p name bytes : Name) → is_file_at tree p ≡ false → put_outcome p name bytes tree ≡ Ok (with_append tree p bytes)
put_new_file tree p name bytes is = ap (placed (with_append tree p bytes) tree name bytes) (no_bytes_stand tree p is)

pub move_over_file : (tree : Tree) (p name from : Name) → is_file_at tree p ≡ true
    → move_outcome p name from tree ≡ if_passed tree (same_or_collision name (first_difference (bytes_at tree p) (bytes_at tree from)))
move_over_file tree p name from is = ap (placed (with_rename tree from p) tree name (bytes_at tree from)) (bytes_stand tree p is)

pub move_new_file : (tree : Tree) (p name from : Name) → is_file_at tree p ≡ false → move_outcome p name from tree ≡ Ok (with_rename tree from p)
move_new_file tree p name from is = ap (placed (with_rename tree from p) tree name (bytes_at tree from)) (no_bytes_stand tree p is)

-- ---- the names that change

pub put_within : (tree : Tree) (p : Name) → is_file_at tree p ≡ false → (q : Name) → IsTrue (same_name q p) → IsTrue (put_names p tree q)
put_within tree p none q same = ap (λ b. not b && same_name q p) none ∙ same

pub move_within : (tree : Tree) (p from : Name) → is_file_at tree p ≡ false → (q : Name) → IsTrue (same_name q from || same_name q p) → IsTrue (move_names p from tree q)
move_within tree p from none q same = ap (λ b. not b && (same_name q from || same_name q p)) none ∙ same

-- ---- by another way to say the name

pub same_move : (tree : Tree) (p name dir goal from : Name) → p ≡ content_path dir name → name ≡ goal → move_outcome p name from tree ≡ move_outcome (content_path dir goal) goal from tree
same_move tree p name dir goal from is same =
    ap (λ (q : Name). move_outcome q name from tree) is ∙ ap (λ (n : Name). move_outcome (content_path dir n) n from tree) same

pub same_move_names : (tree : Tree) (p name dir goal from : Name) → p ≡ content_path dir name → name ≡ goal → (q : Name) → IsTrue (move_names p from tree q) → IsTrue (move_names (content_path dir goal) from tree q)
same_move_names tree p name dir goal from is same q h = subst (λ (r : Name). IsTrue (move_names r from tree q)) (is ∙ ap (content_path dir) same) h

-- ---- what the store then holds

passed_same : (tree new : Tree) (name kept bytes : Name) (o : Option ℕ) → first_difference kept bytes ≡ o → if_passed tree (same_or_collision name o) ≡ Ok new → (kept ≡ bytes) × (tree ≡ new)
passed_same tree new name kept bytes None is passed = (same_lists kept bytes is, cc passed)
passed_same tree new name kept bytes (Some at) is passed = absurd (cc passed)

-- a content that was placed stands: by what stood there before, and that it stands where nothing did
placed_stands : (tree with_file new : Tree) (p name bytes : Name) (o : Option Name) → file_bytes (get tree p) ≡ o
    → (file_bytes (get tree p) ≡ None → file_bytes (get with_file p) ≡ Some bytes) → placed with_file tree name bytes o ≡ Ok new → file_bytes (get new p) ≡ Some bytes
placed_stands tree with_file new p name bytes None stood made is =
    let same : with_file ≡ new = cc is in
    subst (λ (t : Tree). file_bytes (get t p) ≡ Some bytes) same (made stood)
placed_stands tree with_file new p name bytes (Some kept) stood made is =
    let both = passed_same tree new name kept bytes (first_difference kept bytes) refl is in
    subst (λ (t : Tree). file_bytes (get t p) ≡ Some bytes) both.1 (stood ∙ ap Some both.0)

new_bytes : (o : Option Node) (bytes : Name) → file_bytes o ≡ None → file_bytes (Some (grown o bytes)) ≡ Some bytes
new_bytes None bytes none = refl
new_bytes (Some (node.Dir mode)) bytes none = refl
new_bytes (Some (node.File mode kept)) bytes none = absurd (cc none)
new_bytes (Some (node.Link target)) bytes none = refl

pub put_stands : (tree new : Tree) (p name bytes : Name) → put_outcome p name bytes tree ≡ Ok new → file_bytes (get new p) ≡ Some bytes
put_stands tree new p name bytes is =
    placed_stands tree (with_append tree p bytes) new p name bytes (file_bytes (get tree p)) refl
    (λ none. ap file_bytes (get_put_here tree p (Some (grown (get tree p) bytes))) ∙ new_bytes (get tree p) bytes none) is

pub moved_stands : (tree new : Tree) (p name from : Name) → is_file_at tree from ≡ true → move_outcome p name from tree ≡ Ok new
    → file_bytes (get new p) ≡ Some (bytes_at tree from)
moved_stands tree new p name from file is =
    placed_stands tree (with_rename tree from p) new p name (bytes_at tree from) (file_bytes (get tree p)) refl
    (λ none. ap file_bytes (get_put_other (put tree p (get tree from)) from None p (apart none (same_name p from) refl) ∙ get_put_here tree p (get tree from)) ∙ bytes_stand tree from file) is
  where
    apart : file_bytes (get tree p) ≡ None → (v : Bool) → same_name p from ≡ v → same_name p from ≡ false
    apart none true same = absurd (cc (ap (λ (q : Name). file_bytes (get tree q)) (same_means p from same), none, bytes_stand tree from file))
    apart none false same = same
