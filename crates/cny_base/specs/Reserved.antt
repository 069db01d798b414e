-- The paths that the program keeps for itself.
use Rattle.std.specs.Prelude.{Bool, ◌&&◌, ◌||◌, not, List, ℕ, codes}
use Rattle.std.specs.Str.{bytes_eq}
use Rattle.cny_base.specs.Below.{is_below}

-- the private directory of the database
abbrev pub private_directory : List ℕ
private_directory = codes "/var/lib/conarydb"

-- the private directory, or a path below it
abbrev pub is_reserved : List ℕ → Bool
is_reserved path = bytes_eq path private_directory || is_below private_directory path

-- a path above the private directory; all of them are always directories
abbrev pub is_pinned : List ℕ → Bool
is_pinned path = bytes_eq path (codes "/") || (bytes_eq path (codes "/var") || bytes_eq path (codes "/var/lib"))

-- no trove may record the path: it is reserved, or pinned and recorded as no directory
abbrev pub is_forbidden : List ℕ → Bool → Bool
is_forbidden path is_dir = is_reserved path || (is_pinned path && not is_dir)
