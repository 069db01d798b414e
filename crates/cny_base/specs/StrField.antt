-- The field of a stream that holds a value of fewer than 65,536 bytes: the length in two bytes, the high byte first, and the value.
use Rattle.std.specs.Prelude.{◌≡◌, ℕ, ◌+◌, ◌<◌, ◌≤◌, ◌^◌, cond, nat_lt, List, ◌++◌, length, take, drop, slice_range, Option, Some, None}
use Rattle.std.specs.Int.{w16, from_be_bytes, to_be_bytes}

-- A value whose length two bytes can hold.
abbrev pub FitsStr : List ℕ → Type 0
FitsStr value = length value < 2 ^ 16

abbrev pub str : List ℕ → List ℕ
str value = to_be_bytes w16 (length value) ++ value

-- The field that begins at `at` has its value from `from` up to `to`.
pub record IsStrAt (bytes : List ℕ) (at from to : ℕ) : Type 0 where
  pub begins : from ≡ at + 2
  pub order : from ≤ to
  pub within : to ≤ length bytes
  pub fits : FitsStr (slice_range bytes from to)
  pub spelled : drop at bytes ≡ str (slice_range bytes from to) ++ drop to bytes

-- The length of the value of the field at the front, where the bytes hold the whole field.
abbrev pub str_len : List ℕ → Option ℕ
str_len bytes = cond (nat_lt (length bytes) 2) None
    (cond (nat_lt (length bytes) (2 + from_be_bytes w16 (take 2 bytes))) None (Some (from_be_bytes w16 (take 2 bytes))))
