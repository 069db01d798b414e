-- Lists that have no element in common.
use Rattle.std.specs.Prelude.{List, All}

-- no element of the one list is the same as one of the other
abbrev pub AreDisjoint : {A B : Type 0} → (A → B → Type 0) → List A → List B → Type 0
AreDisjoint IsSame xs ys = All (λ x. All (λ y. IsSame x y → ⊥) ys) xs
