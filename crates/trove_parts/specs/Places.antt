-- Places in a list.
use Rattle.std.specs.Prelude.{ℕ, List, [], ◌∷◌, ◌++◌, eqb, if◌then◌else◌}
use Rattle.std.specs.List.{list_any}

-- the places with one more, behind the others where it isn't among them
abbrev pub with_place : List ℕ → ℕ → List ℕ
with_place places place = if list_any (eqb place) places then places else places ++ place ∷ []
