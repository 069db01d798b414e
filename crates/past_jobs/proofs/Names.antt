-- Lists of troves in the order of their names, and troves found by their names.
use Rattle.std.proofs.Common.{◌≡◌, ℕ, true, false, List, Some, Ordering, Contains, sym, ap, ◌∙◌}
use Rattle.std.specs.Cmp.Lexicographic.{slice_cmp, nat_list_cmp_total}
use Rattle.std.specs.Ordering.{nat_cmp, is_eq, ordering_reverse}
use Rattle.std.specs.declared.cmp.Ordering.TheVariants.{Less, Equal, Greater}
use Rattle.local_db.specs.trove-stream.Installed.{IsRising, trove_of}
use Rattle.local_db.specs.trove-stream.declared.parts.TroveParts.{TroveParts}
use Rattle.local_db.specs.tree-disk.Tree.{same_name}
use Rattle.local_db.proofs.tree-disk.Laws.{same_itself}
use Rattle.change_rel.proofs.trove-stream.Names.{contained}

flip_eq : (a b : Ordering) → a ≡ ordering_reverse b → is_eq b ≡ is_eq a
flip_eq a Less e = ap is_eq (sym e)
flip_eq a Equal e = ap is_eq (sym e)
flip_eq a Greater e = ap is_eq (sym e)

pub same_flips : (x y : List ℕ) → same_name y x ≡ same_name x y
same_flips x y = flip_eq (slice_cmp nat_cmp x y) (slice_cmp nat_cmp y x) (nat_list_cmp_total.antisymm x y)

-- names that are told apart
pub apart_means : (x y : List ℕ) → same_name x y ≡ false → x ≡ y → ⊥
apart_means x y apart equal = let own : same_name x x ≡ true = same_itself x in let off : same_name x x ≡ false = ap (same_name x) equal ∙ apart in absurd (cc (own, off))

-- one trove of a name
pub one_named : (list : List TroveParts) → IsRising list → (t u : TroveParts) → Contains list t → Contains list u → t.id.name ≡ u.id.name → t ≡ u
one_named list rises t u t_in u_in names =
    let one : trove_of t.id.name list ≡ Some t = contained list rises t t_in in
    let other : trove_of t.id.name list ≡ Some u = ap (λ (n : List ℕ). trove_of n list) names ∙ contained list rises u u_in in
    cc (one, other)
