-- What is reached in a number of steps.
use Rattle.std.specs.Prelude.{suc, zero, ℕ, ◌⊎◌}

-- in at most so many steps from a root
abbrev pub IsReachedIn : {A : Type 0} → (A → A → Type 0) → (A → Type 0) → ℕ → A → Type 0
IsReachedIn Leads IsRoot zero x = IsRoot x
IsReachedIn {A} Leads IsRoot (suc n) x = IsReachedIn Leads IsRoot n x ⊎ ((y : A) × IsReachedIn Leads IsRoot n y × Leads y x)
