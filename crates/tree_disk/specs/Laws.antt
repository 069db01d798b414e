-- What follows from the definitions, where a contract needs it.
use Rattle.std.specs.Prelude.{◌≡◌, true, cond, T, Option, Some, None, refl}
use Rattle.std.proofs.Common.{sym, subst}
use Rattle.std.specs.declared.cmp.Ordering.{Ordering}
use Rattle.std.specs.declared.cmp.Ordering.TheVariants.{Less, Equal, Greater}
use Rattle.std.specs.Ordering.{nat_cmp, is_eq}
use Rattle.std.specs.Cmp.Lexicographic.{slice_cmp, nat_list_cmp_total}
use Rattle.std.specs.FinMap.{get, get-insert, get-remove, slice_cmp-IsAntisymmetric, nat_cmp-IsAntisymmetric}
use Rattle.cny_base.specs.declared.node.Node.{Node}
use Rattle.tree_disk.specs.Tree.{Name, Tree, same_name, put}

-- ---- names

equal_from : (o : Ordering) → T (is_eq o) → o ≡ Equal
equal_from Less h = absurd h
equal_from Equal h = refl
equal_from Greater h = absurd h

pub same_means : (p q : Name) → same_name p q ≡ true → p ≡ q
same_means p q h = slice_cmp-IsAntisymmetric nat_cmp-IsAntisymmetric p q (equal_from (slice_cmp nat_cmp p q) (subst T (sym h) tt))

-- ---- trees

pub get_put : (t : Tree) (p : Name) (o : Option Node) (q : Name) → get (put t p o) q ≡ cond (same_name q p) o (get t q)
get_put t p None q = get-remove nat_list_cmp_total t p q
get_put t p (Some node) q = get-insert nat_list_cmp_total t p node q
