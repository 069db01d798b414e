-- An item of a stream: a tag of one byte, the length of the value in four bytes, the high byte first, and the value.
use Rattle.std.specs.Prelude.{◌≡◌, ℕ, ◌+◌, ◌<◌, ◌≤◌, ◌^◌, Bool, false, not, cond, ◌==◌, nat_lt, List, [], ◌∷◌, ◌++◌, length, take, drop, slice_range, Option, Some, None}
use Rattle.std.specs.Int.{w32, from_be_bytes, to_be_bytes}
use Rattle.std.specs.List.{list_any}

-- A value whose length four bytes can hold.
abbrev pub FitsItem : List ℕ → Type 0
FitsItem value = length value < 2 ^ 32

abbrev pub item_bytes : ℕ → List ℕ → List ℕ
item_bytes tag value = (tag ∷ to_be_bytes w32 (length value)) ++ value

-- The head of an item whose length isn't written yet.
abbrev pub open_head : ℕ → List ℕ
open_head tag = tag ∷ 0 ∷ 0 ∷ 0 ∷ 0 ∷ []

-- An item that begins at `at` has its head, and a value that fits.
abbrev pub FitsOpen : ℕ → List ℕ → Type 0
FitsOpen at bytes = (at + 5 ≤ length bytes) × (length bytes < at + 5 + 2 ^ 32)

-- The item that begins at `at` has this tag, and its value from `from` up to `to`.
pub record IsItemAt (bytes : List ℕ) (at tag from to : ℕ) : Type 0 where
  pub begins : from ≡ at + 5
  pub order : from ≤ to
  pub within : to ≤ length bytes
  pub fits : FitsItem (slice_range bytes from to)
  pub spelled : drop at bytes ≡ item_bytes tag (slice_range bytes from to) ++ drop to bytes

abbrev pub is_expected : List ℕ → ℕ → Bool
is_expected tags tag = list_any (λ t. t == tag) tags

-- whether there is a first byte and it isn't an expected tag
abbrev pub begins_unexpected : List ℕ → List ℕ → Bool
begins_unexpected tags [] = false
begins_unexpected tags (tag ∷ bytes) = not (is_expected tags tag)

-- Where the fault lies if no whole item with an expected tag begins at `at`: at the first byte where that isn't an
-- expected tag, else where the bytes end.
abbrev pub fault_place : List ℕ → ℕ → List ℕ → ℕ
fault_place bytes at tags = cond (begins_unexpected tags (drop at bytes)) at (length bytes)

-- The length of the value of the item at the front, where the bytes hold the whole item.
abbrev pub value_len : List ℕ → Option ℕ
value_len bytes = cond (nat_lt (length bytes) 5) None
    (cond (nat_lt (length bytes) (5 + from_be_bytes w32 (take 4 (drop 1 bytes)))) None (Some (from_be_bytes w32 (take 4 (drop 1 bytes)))))
