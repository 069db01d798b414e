-- The grammar of link targets, on bytes.
use Rattle.std.specs.Prelude.{ℕ, Bool, ◌&&◌, not, List, length, ◌==◌, nat_le}
use Rattle.std.specs.List.{list_all}
use Rattle.std.specs.Str.{is_utf8}

-- no control byte
abbrev pub is_shown : ℕ → Bool
is_shown b = nat_le 32 b && not (b == 127)

-- 1 to 1,024 bytes, none of them a control byte
abbrev pub has_target_form : List ℕ → Bool
has_target_form bytes = nat_le 1 (length bytes) && (nat_le (length bytes) 1024 && list_all is_shown bytes)

-- a target: bytes of that form which are UTF-8
abbrev pub is_target : List ℕ → Bool
is_target bytes = has_target_form bytes && is_utf8 bytes
