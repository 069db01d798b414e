-- Names below names.
use Rattle.std.specs.Prelude.{ℕ, Bool, true, false, ◌&&◌, List, [], ◌∷◌, ◌++◌, ◌==◌}

abbrev pub begins_with : List ℕ → List ℕ → Bool
begins_with [] bytes = true
begins_with (a ∷ front) [] = false
begins_with (a ∷ front) (b ∷ bytes) = a == b && begins_with front bytes

-- whether q lies below p, which isn't `/`
abbrev pub is_below : List ℕ → List ℕ → Bool
is_below p q = begins_with (p ++ 47 ∷ []) q
