-- How contents are named in tests.
use Rattle.std.specs.Prelude.{ℕ, List, [], ◌∷◌, Option, Some, None, replicate}

-- the first byte, and none of no bytes
abbrev pub first_of : List ℕ → Option ℕ
first_of [] = None
first_of (b ∷ bs) = Some b

-- that byte, or 0
abbrev pub or_zero : Option ℕ → ℕ
or_zero None = 0
or_zero (Some b) = b

-- the first byte 20 times, and 0 for no bytes
abbrev pub byte_name : List ℕ → List ℕ
byte_name bytes = replicate 20 (or_zero (first_of bytes))
