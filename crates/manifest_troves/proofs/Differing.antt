-- Where two lists of bytes differ.
use Rattle.std.proofs.Common.{◌≡◌, ℕ, zero, suc, ◌<◌, ◌≤◌, List, [], ◌∷◌, length, get_or, refl, sym, ap, ⊎_elim, arith, eq-eqb}
use Rattle.std.specs.Prelude.{◌==◌}
use Rattle.std.proofs.lemmas.Bool.{eqb-true, cases_Bool}
use Rattle.manifest_troves.specs.Contents.{first_difference}

abbrev Agree : List ℕ → List ℕ → ℕ → Type 0
Agree a b n = (k : ℕ) → k < n → get_or a k 0 ≡ get_or b k 0

one_more : (x y : ℕ) (a b : List ℕ) (n : ℕ) → x ≡ y → n ≡ first_difference a b → suc n ≡ first_difference (x ∷ a) (y ∷ b)
one_more x y a b n same is = sym (rw (eq-eqb x y same) (ap suc (sym is)))

pub difference_at : (a b : List ℕ) (n : ℕ) → n < length a → n < length b → Agree a b n → (get_or a n 0 ≡ get_or b n 0 → ⊥) → n ≡ first_difference a b
difference_at [] b n in_a in_b agree differ = absurd (omega (arith, in_a))
difference_at (x ∷ a) [] n in_a in_b agree differ = absurd (omega (arith, in_b))
difference_at (x ∷ a) (y ∷ b) zero in_a in_b agree differ =
    ⊎_elim (λ same. absurd (differ (eqb-true x y same))) (λ other. sym (rw other refl)) (cases_Bool (x == y))
difference_at (x ∷ a) (y ∷ b) (suc n) in_a in_b agree differ =
    one_more x y a b n (agree 0 (omega arith))
    (difference_at a b n (omega (arith, in_a)) (omega (arith, in_b)) (λ k lt. agree (suc k) (omega (arith, lt))) differ)

pub difference_end : (a b : List ℕ) (n : ℕ) → n ≤ length a → n ≤ length b → Agree a b n → (n < length a → n < length b → ⊥) → n ≡ first_difference a b
difference_end [] b zero in_a in_b agree ends = refl
difference_end [] b (suc n) in_a in_b agree ends = absurd (omega (arith, in_a))
difference_end (x ∷ a) [] zero in_a in_b agree ends = refl
difference_end (x ∷ a) [] (suc n) in_a in_b agree ends = absurd (omega (arith, in_b))
difference_end (x ∷ a) (y ∷ b) zero in_a in_b agree ends = absurd (ends (omega arith) (omega arith))
difference_end (x ∷ a) (y ∷ b) (suc n) in_a in_b agree ends =
    one_more x y a b n (agree 0 (omega arith))
    (difference_end a b n (omega (arith, in_a)) (omega (arith, in_b)) (λ k lt. agree (suc k) (omega (arith, lt))) (λ p q. ends (omega (arith, p)) (omega (arith, q))))
