-- A directory's path with the slash behind it.
use Rattle.std.specs.Prelude.{List, ℕ, [], ◌∷◌, ◌++◌}

-- `/` is itself that
abbrev pub front_of : List ℕ → List ℕ
front_of (b ∷ []) = b ∷ []
front_of dir = dir ++ 47 ∷ []
