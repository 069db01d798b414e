-- The order of names, and of names directly below others.
use Rattle.std.proofs.Common.{◌≡◌, ◌≢◌, ◌⊎◌, inl, inr, ⊎_elim, Bool, true, false, not, ◌&&◌, refl, sym, ◌∙◌, ap, subst}
use Rattle.std.specs.declared.cmp.Ordering.{Ordering}
use Rattle.std.specs.declared.cmp.Ordering.TheVariants.{Less, Equal, Greater}
use Rattle.std.specs.Ordering.{is_eq, ordering_reverse}
use Rattle.std.specs.Cmp.Lexicographic.{nat_list_cmp_total}
use Rattle.trove_stream.proofs.cny-base.Below.{parent_first, shorter_less}
use Rattle.trove_stream.specs.cny-base.Path.{is_path, join, parent, root}
use Rattle.tree_scan.proofs.tree-disk.ClearLaws.{join_is}
use Rattle.tree_scan.specs.tree-disk.Laws.{same_means}
use Rattle.tree_scan.proofs.tree-disk.Laws.{same_itself}
use Rattle.tree_scan.specs.tree-disk.Tree.{Name, is_child, same_name}
use Rattle.tree_scan.proofs.tree-disk.Order.{name_cmp, not_back as not_both_less, not_itself as not_less_itself}

pub same_sym : (p q : Name) → same_name p q ≡ true → same_name q p ≡ true
same_sym p q same = subst (λ x. same_name x p ≡ true) (same_means p q same) (same_itself p)

pub less_other : (p q : Name) → name_cmp p q ≡ Less → same_name p q ≡ false
less_other p q less = ap is_eq less

pub less_then : (p q r : Name) → name_cmp p q ≡ Less → name_cmp q r ≡ Less → name_cmp p r ≡ Less
less_then p q r one other = nat_list_cmp_total.trans p q r one other

-- before, the same, or behind
pub placed : (p q : Name) → (name_cmp p q ≡ Less) ⊎ ((p ≡ q) ⊎ (name_cmp q p ≡ Less))
placed p q = at (name_cmp p q) refl
  where
    at : (o : Ordering) → name_cmp p q ≡ o → (name_cmp p q ≡ Less) ⊎ ((p ≡ q) ⊎ (name_cmp q p ≡ Less))
    at Less is = inl is
    at Equal is = inr (inl (same_means p q (ap is_eq is)))
    at Greater is = inr (inr (nat_list_cmp_total.antisymm q p ∙ ap ordering_reverse is))

-- the same, or before
abbrev pub IsUpTo : Name → Name → Type 0
IsUpTo p q = (p ≡ q) ⊎ (name_cmp p q ≡ Less)

pub up_to_then : (p q r : Name) → IsUpTo p q → IsUpTo q r → IsUpTo p r
up_to_then p q r (inl is) other = subst (λ x. IsUpTo x r) (sym is) other
up_to_then p q r (inr less) (inl is) = inr (subst (λ x. name_cmp p x ≡ Less) is less)
up_to_then p q r (inr less) (inr more) = inr (less_then p q r less more)

pub not_behind : (p q : Name) → IsUpTo p q → name_cmp q p ≡ Less → ⊥
not_behind p q (inl is) less = not_less_itself p (subst (λ x. name_cmp x p ≡ Less) (sym is) less)
not_behind p q (inr less) more = not_both_less p q less more

-- ---- names directly below others

first_true : (x y : Bool) → (not x && y) ≡ true → x ≡ false
first_true true y is = absurd (cc is)
first_true false y is = refl

pub second_true : (x y : Bool) → (not x && y) ≡ true → y ≡ true
second_true true y is = absurd (cc is)
second_true false y is = is

pub child_other : (p q : Name) → is_child p q ≡ true → same_name q root ≡ false
child_other p q child = first_true (same_name q root) (same_name (parent q) p) child

pub child_parent : (p q : Name) → is_child p q ≡ true → parent q ≡ p
child_parent p q child = same_means (parent q) p (second_true (same_name q root) (same_name (parent q) p) child)

pub parent_child : (q : Name) → same_name q root ≡ false → is_child (parent q) q ≡ true
parent_child q other = ap (λ b. not b && same_name (parent q) (parent q)) other ∙ same_itself (parent q)

-- a name comes behind the one directly above it
pub child_behind : (p q : Name) → is_child p q ≡ true → is_path q ≡ true → name_cmp p q ≡ Less
child_behind p q child path = ⊎_elim
    (λ is. absurd (cc (child_other p q child, subst (λ x. same_name x root ≡ true) (sym is) (same_itself root))))
    (λ less. subst (λ x. name_cmp x q ≡ Less) (child_parent p q child) less)
    (parent_first q path)

pub joined_behind : (p last : Name) → is_path p ≡ true → p ≢ root → name_cmp p (join p last) ≡ Less
joined_behind p last path other = ap (name_cmp p) (join_is p last path other) ∙ shorter_less p 47 last
