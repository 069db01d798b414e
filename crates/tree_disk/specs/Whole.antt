-- What `read_whole` answers.
use Rattle.std.specs.Prelude.{◌≡◌, ℕ, ◌<◌, ◌≤◌, ◌-◌, min, List, ◌++◌, Option, Some, None, length, take, drop, nat_le, if◌then◌else◌}

-- the bytes, where there are no more than `most`, and else none
abbrev pub IsWhole : List ℕ → ℕ → Option (List ℕ) → Type 0
IsWhole file most (Some bytes) = (bytes ≡ file) × (length file ≤ most)
IsWhole file most None = most < length file

-- the same, as the answer
abbrev pub whole_within : ℕ → List ℕ → Option (List ℕ)
whole_within most file = if nat_le (length file) most then Some file else None

-- the next piece of a file, where there is room for so many bytes
pub record IsPiece (file : List ℕ) (room : ℕ) (old new : List ℕ) (count : ℕ) : Type 0 where
  pub piece : new ≡ old ++ take count (drop (length old) file)
  pub most : count ≡ min room (length file - length old)
