-- The grammar of paths, on bytes.
use Rattle.std.specs.Prelude.{ℕ, Bool, false, ◌&&◌, ◌||◌, not, List, [], ◌∷◌, ◌++◌, length, ◌==◌, nat_le, if◌then◌else◌}
use Rattle.std.specs.List.{list_all, list_any, slice_split}
use Rattle.std.specs.Str.{is_utf8}

abbrev pub is_slash : ℕ → Bool
is_slash b = b == 47

-- the root
abbrev pub root : List ℕ
root = 47 ∷ []

abbrev pub has_slash : List ℕ → Bool
has_slash bytes = list_any is_slash bytes

-- what stands before the last slash
abbrev pub before_slash : List ℕ → List ℕ
before_slash [] = []
before_slash (b ∷ bs) = if has_slash bs then b ∷ before_slash bs else []

-- what stands after the last slash
abbrev pub last_name : List ℕ → List ℕ
last_name [] = []
last_name (b ∷ bs) = if has_slash bs then last_name bs else (if is_slash b then bs else b ∷ bs)

abbrev pub or_root : List ℕ → List ℕ
or_root [] = root
or_root (b ∷ bs) = b ∷ bs

-- the path without its last name; of `/` it is `/` again
abbrev pub parent : List ℕ → List ℕ
parent p = or_root (before_slash p)

-- a directory's path and a last name, joined
abbrev pub join : List ℕ → List ℕ → List ℕ
join (b ∷ []) last = b ∷ last
join p last = p ++ 47 ∷ last

-- neither a slash nor a control byte
abbrev pub is_plain : ℕ → Bool
is_plain b = nat_le 32 b && (not (b == 47) && not (b == 127))

-- `.` or `..`
abbrev pub is_dots : List ℕ → Bool
is_dots (a ∷ []) = a == 46
is_dots (a ∷ b ∷ []) = a == 46 && b == 46
is_dots _ = false

-- 1 to 255 plain bytes, neither `.` nor `..`
abbrev pub has_part_form : List ℕ → Bool
has_part_form part = nat_le 1 (length part) && (nat_le (length part) 255 && (list_all is_plain part && not (is_dots part)))

-- one part of a path: bytes of that form which are UTF-8
abbrev pub is_part : List ℕ → Bool
is_part part = has_part_form part && is_utf8 part

-- one or more parts
abbrev pub are_parts : List ℕ → Bool
are_parts bytes = list_all is_part (slice_split is_slash bytes)

-- `/`, or one or more parts, each after a slash; at most 1,024 bytes
abbrev pub is_path : List ℕ → Bool
is_path [] = false
is_path (b ∷ bs) = b == 47 && (length bs == 0 || (nat_le (length bs) 1023 && are_parts bs))
