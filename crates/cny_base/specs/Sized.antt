-- Bytes of a size.
use Rattle.std.specs.Prelude.{List, None, Option, Some, if◌then◌else◌, length, ℕ, ◌==◌}

-- a content, if it has this size
abbrev pub of_size : ℕ → Option (List ℕ) → Option (List ℕ)
of_size size None = None
of_size size (Some bytes) = if length bytes == size then Some bytes else None
