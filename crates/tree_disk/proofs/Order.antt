-- The order of names.
use Rattle.std.proofs.Common.{List, ap, sym, ℕ, ◌∙◌, ◌≡◌, false, subst, true, ⊎_elim}
use Rattle.std.specs.Cmp.Lexicographic.{slice_cmp, nat_list_cmp_total}
use Rattle.std.specs.Ordering.{is_eq, nat_cmp}
use Rattle.std.specs.declared.cmp.Ordering.TheVariants.{Less}
use Rattle.std.specs.declared.cmp.Ordering.{Ordering}
use Rattle.tree_disk.proofs.Laws.{same_itself}
use Rattle.tree_disk.specs.Tree.{Name, same_name}
use Rattle.std.proofs.lemmas.Bool.{cases_Bool}
use Rattle.tree_disk.specs.Laws.{same_means}

abbrev pub name_cmp : Name → Name → Ordering
name_cmp p q = slice_cmp nat_cmp p q

pub not_before : (a b : List ℕ) → a ≡ b → slice_cmp nat_cmp a b ≡ Less → ⊥
not_before a b is less = absurd (cc (same_itself b, ap is_eq (ap (λ (n : List ℕ). slice_cmp nat_cmp n b) (sym is) ∙ less)))

pub not_itself : (p : Name) → name_cmp p p ≡ Less → ⊥
not_itself p less = absurd (cc (ap is_eq less, same_itself p))

pub not_back : (p q : Name) → name_cmp p q ≡ Less → name_cmp q p ≡ Less → ⊥
not_back p q less more = not_itself p (nat_list_cmp_total.trans p q p less more)

pub other_way : (p q : Name) → same_name p q ≡ false → same_name q p ≡ false
other_way p q other = ⊎_elim
    (λ same. absurd (cc (other, subst (λ x. same_name x q ≡ true) (same_means q p same) (same_itself q))))
    (λ o. o)
    (cases_Bool (same_name q p))

pub less_differs : (p q : Name) → name_cmp p q ≡ Less → same_name q p ≡ false
less_differs p q less = ⊎_elim (λ same. absurd (not_itself p (ap (name_cmp p) (sym (same_means q p same)) ∙ less))) (λ other. other) (cases_Bool (same_name q p))
