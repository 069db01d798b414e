-- Where two lists of bytes differ first.
use Rattle.std.specs.Prelude.{ℕ, ◌+◌, ◌==◌, if◌then◌else◌, List, [], ◌∷◌, Option, Some, None}

-- a place, counted from so many bytes before
abbrev pub shifted : ℕ → Option ℕ → Option ℕ
shifted n None = None
shifted n (Some at) = Some (n + at)

-- The first place at which two lists differ. Where one is the beginning of the other that is the length of the shorter;
-- where they are the same there is none.
abbrev pub first_difference : List ℕ → List ℕ → Option ℕ
first_difference [] [] = None
first_difference [] (y ∷ ys) = Some 0
first_difference (x ∷ xs) [] = Some 0
first_difference (x ∷ xs) (y ∷ ys) = if x == y then shifted 1 (first_difference xs ys) else Some 0
