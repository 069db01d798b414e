-- The names and flags of dependencies, on bytes.
use Rattle.std.specs.Prelude.{ℕ, Bool, ◌&&◌, not, List, length, ◌==◌, nat_le}
use Rattle.std.specs.List.{list_all}

-- visible ASCII without `(`, `)` and `,`
abbrev pub is_part_byte : ℕ → Bool
is_part_byte b = nat_le 33 b && (nat_le b 126 && (not (b == 40) && (not (b == 41) && not (b == 44))))

-- 1 to 1,024 of these bytes
abbrev pub is_dep_name : List ℕ → Bool
is_dep_name bytes = nat_le 1 (length bytes) && (nat_le (length bytes) 1024 && list_all is_part_byte bytes)

-- 1 to 255 of these bytes
abbrev pub is_flag : List ℕ → Bool
is_flag bytes = nat_le 1 (length bytes) && (nat_le (length bytes) 255 && list_all is_part_byte bytes)
