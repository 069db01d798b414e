-- In how many bytes two contents differ.
use Rattle.std.specs.Prelude.{ℕ, ◌+◌, ◌-◌, List, length}
use Rattle.tree_disk.specs.cny-base.Compare.{count_of_differing}

-- the places that both have and at which they differ, and the places that only one of them has
abbrev pub count_of_differing_bytes : List ℕ → List ℕ → ℕ
count_of_differing_bytes a b = count_of_differing a b + ((length a - length b) + (length b - length a))
