-- Names below one another, and their lengths.
use Rattle.cny_base.proofs.Below.{before_join, below_rest}
use Rattle.cny_base.proofs.Paths.{slash_first}
use Rattle.cny_base.specs.Below.{is_below}
use Rattle.cny_base.specs.Path.{before_slash, has_slash, is_path, join, or_root, parent, root}
use Rattle.std.proofs.Common.{Bool, [], ap, arith, cond, false, length, length-append, refl, sym, true, ℕ, ⊎_elim, ◌++◌, ◌+◌, ◌<◌, ◌∙◌, ◌∷◌, ◌≡◌, ◌≤◌}
use Rattle.tree_disk.proofs.ClearLaws.{or_cases}
use Rattle.tree_disk.specs.Clear.{is_within}
use Rattle.tree_disk.specs.Laws.{same_means}
use Rattle.tree_disk.specs.Tree.{Name, same_name}
use Rattle.std.proofs.lemmas.List.{append_cancel_left}
use Rattle.std.proofs.lemmas.Bool.{cases_Bool}

pub join_short : (p last : Name) → length (join p last) ≤ length p + length last + 1
join_short [] last = omega arith
join_short (b ∷ []) last = omega arith
join_short (b ∷ c ∷ p) last = omega (arith, length-append (b ∷ c ∷ p) (47 ∷ last))

pub parent_join : (p last : Name) → is_path p ≡ true → has_slash last ≡ false → parent (join p last) ≡ p
parent_join [] last path plain = absurd (cc path)
parent_join (b ∷ []) last path plain = ap or_root (ap (λ (v : Bool). cond v (b ∷ before_slash last) []) plain) ∙ ap (λ (n : ℕ). n ∷ []) (sym (slash_first b path))
parent_join (b ∷ c ∷ p) last path plain = ap or_root (before_join (b ∷ c ∷ p) last false plain)

pub below_longer : (p q : Name) → is_below p q ≡ true → length p < length q
below_longer p q low = let rest = below_rest p q low in omega (arith, ap length rest.1, length-append p (47 ∷ rest.0))

pub within_rest : (p q : Name) → is_within p q ≡ true → (rest : Name) × (q ≡ p ++ rest)
within_rest p q h = ⊎_elim
    (λ same. ([], same_means q p same ∙ sym (nil p)))
    (λ low. let r = below_rest p q low in (47 ∷ r.0, r.1))
    (or_cases (same_name q p) (is_below p q) h)
  where
    nil : (l : Name) → l ++ [] ≡ l
    nil [] = refl
    nil (a ∷ l) = ap (λ m. a ∷ m) (nil l)

pub no_path : (p : Name) → is_path p ≡ true → p ≡ [] → ⊥
no_path p path is = absurd (cc (sym path ∙ ap is_path is))

pub not_same : (q : Name) → (q ≡ root → ⊥) → same_name q root ≡ false
not_same q other = ⊎_elim (λ h. absurd (other (same_means q root h))) (λ h. h) (cases_Bool (same_name q root))

pub same_last : (dir a b : Name) → join dir a ≡ join dir b → a ≡ b
same_last [] a b is = cc is
same_last (c ∷ []) a b is = cc is
same_last (c ∷ d ∷ dir) a b is = cc (append_cancel_left (c ∷ d ∷ dir) (47 ∷ a) (47 ∷ b) is)
