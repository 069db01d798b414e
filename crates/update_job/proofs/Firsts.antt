-- The first element of a list that fails, and a fault passed on.
use Rattle.std.proofs.Common.{◌≡◌, List, [], ◌∷◌, ◌++◌, subst}
use Rattle.std.specs.List.{AllByRecursion}

module _ {A : Type 0} (Passes Fails : A → Type 0) (apart : (x : A) → Passes x → Fails x → ⊥) where
  pub none_fails : (front : List A) (x : A) (rest : List A) → AllByRecursion Passes (front ++ x ∷ rest) → Fails x → ⊥
  none_fails [] x rest pass fails = apart x pass.0 fails
  none_fails (y ∷ front) x rest pass fails = none_fails front x rest pass.1 fails

  pub one_first : (front other : List A) (x y : A) (rest more : List A) → front ++ x ∷ rest ≡ other ++ y ∷ more → AllByRecursion Passes front → AllByRecursion Passes other → Fails x → Fails y → x ≡ y
  one_first [] [] x y rest more same pass pass' fails fails' = cc same
  one_first [] (z ∷ other) x y rest more same pass pass' fails fails' = let first : z ≡ x = cc same in absurd (apart x (subst Passes first pass'.0) fails)
  one_first (z ∷ front) [] x y rest more same pass pass' fails fails' = let first : z ≡ y = cc same in absurd (apart y (subst Passes first pass.0) fails')
  one_first (z ∷ front) (w ∷ other) x y rest more same pass pass' fails fails' = one_first front other x y rest more (cc same) pass.1 pass'.1 fails fails'
