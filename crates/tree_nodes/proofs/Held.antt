-- Names that aren't among the known ones, below a directory.
use Rattle.std.proofs.Common.{◌≡◌, Bool, true, false, cond, ◌||◌, ◌&&◌, List, [], ◌∷◌, ◌++◌, filter, map, refl, sym, ◌∙◌, string_bytes, String}
use Rattle.std.specs.declared.alloc.Global.{Global}
use Rattle.std.specs.List.{list_any}
use Rattle.std.specs.List.Sorted.{IsStrictlySortedBy}
use Rattle.std.specs.String.{string_cmp}
use Rattle.std.specs.FinMap as fin
use Rattle.tree_disk.specs.cny-base.declared.node.Node.{Node}
use Rattle.tree_disk.specs.cny-base.Path.{root}
use Rattle.tree_disk.specs.cny-base.Below.{begins_with, is_below}
use Rattle.tree_disk.specs.Tree.{Name, same_name}
use Rattle.tree_nodes.specs.Stored.{tree_of}
use Rattle.tree_nodes.specs.Below.{has_prefix, entries_with_prefix}
use Rattle.tree_nodes.proofs.Children.{texts, names_stored}

any_here : (e : String Global × Node) (n : Name → Bool) (rest all : List (String Global × Node)) (ns : List Name) (b : Bool) (test : Name → Bool)
    → list_any (λ e. n (string_bytes e.0)) rest ≡ list_any test ns
    → list_any (λ e. n (string_bytes e.0)) (cond b (e ∷ rest) rest) ≡ (n (string_bytes e.0) && b || list_any test ns)
any_here e n rest all ns true test same = both (n (string_bytes e.0)) same
  where
    both : (x : Bool) → list_any (λ e. n (string_bytes e.0)) rest ≡ list_any test ns → (x || list_any (λ e. n (string_bytes e.0)) rest) ≡ (x && true || list_any test ns)
    both true h = refl
    both false h = h
any_here e n rest all ns false test same = none (n (string_bytes e.0)) same
  where
    none : (x : Bool) → list_any (λ e. n (string_bytes e.0)) rest ≡ list_any test ns → list_any (λ e. n (string_bytes e.0)) rest ≡ (x && false || list_any test ns)
    none true h = h
    none false h = h

any_filtered : (n b : Name → Bool) (es : List (String Global × Node)) → list_any (λ e. n (string_bytes e.0)) (filter (λ e. b (string_bytes e.0)) es) ≡ list_any (λ q. n q && b q) (texts es)
any_filtered n b [] = refl
any_filtered n b (e ∷ es) = any_here e n (filter (λ e. b (string_bytes e.0)) es) es (texts es) (b (string_bytes e.0)) (λ q. n q && b q) (any_filtered n b es)

pub other_below : (n : Name → Bool) (p : Name) (es : List (String Global × Node)) (holds : Bool) → same_name p root ≡ false → IsStrictlySortedBy string_cmp (map (λ e. e.0) es)
    → holds ≡ list_any (λ e. n (string_bytes e.0)) (entries_with_prefix p es) → holds ≡ list_any (λ q. n q && is_below p q) (fin.keys (tree_of es))
other_below n p es holds other sorted is =
    is ∙ any_filtered n (has_prefix p) es
    ∙ (λ i. list_any (λ q. n q && begins_with (cond (other i) [] p ++ 47 ∷ []) q) (sym (names_stored es sorted) i))
