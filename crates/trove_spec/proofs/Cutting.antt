-- Lists that are cut at the first place of a byte.
use Rattle.std.proofs.Common.{◌≡◌, ℕ, zero, suc, List, [], ◌∷◌, ◌++◌, Option, Some, None, refl, sym, ap, ◌∙◌, arith}
use Rattle.std.proofs.lemmas.List.{append-nil, append_cancel_right}
use Rattle.trove_spec.specs.Spec.{behind_equals, in_brackets}
use Rattle.repo_index.specs.trove-parts.Parts.{Lacks}
use Rattle.repo_index.proofs.cny-dep.Cuts.{no_cut, same_cut}

-- ---- lists without the byte

pub lacks_both : (c : ℕ) (xs ys : List ℕ) → Lacks c xs → Lacks c ys → Lacks c (xs ++ ys)
lacks_both c [] ys first second i within e = second i within e
lacks_both c (x ∷ xs) ys first second zero within e = first zero (omega arith) e
lacks_both c (x ∷ xs) ys first second (suc i) within e = lacks_both c xs ys (λ k under is. first (suc k) (omega arith) is) second i (omega arith) e

pub lacks_more : (c x : ℕ) (xs : List ℕ) → (x ≡ c → ⊥) → Lacks c xs → Lacks c (x ∷ xs)
lacks_more c x xs other lacks zero within e = other e
lacks_more c x xs other lacks (suc i) within e = lacks i (omega arith) e

-- ---- a text, and behind it another in brackets, or behind `=`, or none

pub same_brackets : (x y : List ℕ) (f g : Option (List ℕ)) → Lacks 91 x → Lacks 91 y → x ++ in_brackets f ≡ y ++ in_brackets g → (x ≡ y) × (f ≡ g)
same_brackets x y None None lx ly e = (sym (append-nil x) ∙ e ∙ append-nil y, refl)
same_brackets x y None (Some g) lx ly e = absurd (no_cut 91 x y (g ++ 93 ∷ []) lx (sym (append-nil x) ∙ e))
same_brackets x y (Some f) None lx ly e = absurd (no_cut 91 y x (f ++ 93 ∷ []) ly (sym (append-nil y) ∙ sym e))
same_brackets x y (Some f) (Some g) lx ly e =
    let parts = same_cut 91 x y (f ++ 93 ∷ []) (g ++ 93 ∷ []) lx ly e in
    (parts.0, ap Some (append_cancel_right f g (93 ∷ []) parts.1))

pub same_equals : (x y : List ℕ) (p q : Option (List ℕ)) → Lacks 61 x → Lacks 61 y → x ++ behind_equals p ≡ y ++ behind_equals q → (x ≡ y) × (p ≡ q)
same_equals x y None None lx ly e = (sym (append-nil x) ∙ e ∙ append-nil y, refl)
same_equals x y None (Some q) lx ly e = absurd (no_cut 61 x y q lx (sym (append-nil x) ∙ e))
same_equals x y (Some p) None lx ly e = absurd (no_cut 61 y x p ly (sym (append-nil y) ∙ sym e))
same_equals x y (Some p) (Some q) lx ly e = let parts = same_cut 61 x y p q lx ly e in (parts.0, ap Some parts.1)

-- where a text ends behind its first `[` without `]`, it isn't one with brackets
pub unclosed : (text before rest other : List ℕ) (flavor : Option (List ℕ)) → text ≡ before ++ 91 ∷ rest → Lacks 91 before → ((inner : List ℕ) → rest ≡ inner ++ 93 ∷ [] → ⊥)
    → Lacks 91 other → text ≡ other ++ in_brackets flavor → ⊥
unclosed text before rest other None whole lacks open' other_lacks cut = no_cut 91 other before rest other_lacks (sym (append-nil other) ∙ sym cut ∙ whole)
unclosed text before rest other (Some flavor) whole lacks open' other_lacks cut =
    open' flavor (same_cut 91 before other rest (flavor ++ 93 ∷ []) lacks other_lacks (sym whole ∙ cut)).1
