-- Lists of paths.
use Rattle.std.specs.Prelude.{ℕ, IsTrue, List}
use Rattle.std.specs.Cmp.Lexicographic.{slice_cmp}
use Rattle.std.specs.Ordering.{nat_cmp}
use Rattle.std.specs.declared.cmp.Ordering.{Ordering}
use Rattle.cny_version.specs.cny-base.Path.{is_path}
use Rattle.trove_parts.specs.Items.{items_bytes, IsRisingList}

abbrev pub IsPath : List ℕ → Type 0
IsPath path = IsTrue (is_path path)

-- the value of an item is the path itself
abbrev pub path_value : List ℕ → List ℕ
path_value path = path

-- by the bytes
abbrev pub path_cmp : List ℕ → List ℕ → Ordering
path_cmp a b = slice_cmp nat_cmp a b

-- strictly rising
abbrev pub ArePaths : List (List ℕ) → Type 0
ArePaths paths = IsRisingList IsPath path_cmp paths

abbrev pub paths_bytes : ℕ → List (List ℕ) → List ℕ
paths_bytes tag paths = items_bytes path_value tag paths
