-- What was kept of an item's value, as far as it came.
use Rattle.std.specs.Prelude.{◌≡◌, ◌≢◌, ℕ, ◌+◌, ◌<◌, ◌≤◌, Bool, ◌&&◌, ◌||◌, ◌==◌, nat_le, List, [], ◌++◌, length, take, drop, Option, Some, None}
use Rattle.sha1.specs.Sha1.{Holds}
use Rattle.journal_log.specs.tree-disk.declared.pieces.TheConstants.{PIECE}
use Rattle.change_pull.specs.declared.item.Item.{Item}

-- the bytes that were written, where there is a file
abbrev pub written_bytes : Option (List ℕ) → List ℕ
written_bytes None = []
written_bytes (Some bytes) = bytes

-- Of a content: its name, as far as it came; the hash of its bytes so far; and these bytes, the written ones and those that wait.
pub record IsContentSoFar (item : Item) (value : List ℕ) (written : Option (List ℕ)) : Type 0 where
  pub name : item.kept.items ≡ take 20 value
  pub hash : Holds item.hasher (drop 20 value)
  pub bytes : written_bytes written ++ item.piece.items ≡ drop 20 value

-- An item with this tag, this length and, so far, this value; of a content these bytes were written. Nothing is kept of the end.
pub record IsGathered (item : Item) (tag len : ℕ) (value : List ℕ) (written : Option (List ℕ)) : Type 0 where
  pub tagged : item.tag ≡ tag
  pub long : item.len ≡ len
  pub content : tag ≡ 0x12 → IsContentSoFar item value written
  pub part : tag ≢ 0x12 → tag ≢ 0x1F → item.kept.items ≡ value
  pub unwritten : tag ≢ 0x12 → written ≡ None

-- So many bytes may come at once: they don't pass the end of a content's name.
abbrev pub HasRoom : Item → ℕ → Type 0
HasRoom item count = item.tag ≡ 0x12 → length item.kept.items < 20 → length item.kept.items + count ≤ 20

-- a content's bytes that wait are to be written
abbrev pub is_due : Item → Bool → Bool
is_due item whole = item.tag == 0x12 && (length item.kept.items == 20 && (whole || nat_le PIECE (length item.piece.items)))
