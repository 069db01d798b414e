-- Shared lemmas: reaching.
use Rattle.cny_base.specs.Reach.{IsReachedIn}
use Rattle.std.proofs.Common.{arith, inl, inr, subst, suc, zero, ℕ, ◌≡◌, ◌≤◌}
use Rattle.std.proofs.lemmas.Bool.{cases_lt}

module _ {A : Type 0} (Follows : A → A → Type 0) (IsRoot : A → Type 0) where
  pub reached_later : (n m : ℕ) (x : A) → n ≤ m → IsReachedIn Follows IsRoot n x → IsReachedIn Follows IsRoot m x
  reached_later n zero x most h =
      let same : n ≡ 0 = omega arith in
      subst (λ (k : ℕ). IsReachedIn Follows IsRoot k x) same h
  reached_later n (suc m) x most h = elim (cases_lt m n) [
    | inl past ↦ (let same : n ≡ suc m = omega (arith, past, most) in subst (λ (k : ℕ). IsReachedIn Follows IsRoot k x) same h)
    | inr before ↦ inl (reached_later n m x before h)
  ]
