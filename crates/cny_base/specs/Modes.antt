-- The mode of files that are made.
use Rattle.std.specs.Prelude.{ℕ}

-- the mode of a commit's file, 0644
abbrev pub file_mode : ℕ
file_mode = 420
