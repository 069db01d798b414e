-- What the reader of change sets has read.
use Rattle.std.specs.Prelude.{◌≡◌, ◌⊎◌, ℕ, ◌≤◌, false, nat_lt, List, [], ◌∷◌, ◌++◌, ◌+◌, length, drop, flat_map, All, Option, Some, None}
use Rattle.trove_stream.specs.cny-base.declared.limits.TheConstants.{CONTENT_ITEM_LIMIT, PARTS_LIMIT}
use Rattle.cny_stream.specs.Item.{IsItemAt}
use Rattle.cny_stream.specs.declared.item.Item.{Item}
use Rattle.change_set.specs.declared.change.Part.{Part}
use Rattle.change_set.specs.declared.change.Carried.{Carried}
use Rattle.change_set.specs.ChangeSet.{IsPart, part_tag, part_value, part_bytes, FitsPart, content_value, content_bytes, IsContentOf, magic}
use Rattle.change_set.specs.FirstFault.{StreamItem, ComesAfter, tags_after}

-- a content's item is no longer than a content may be
abbrev pub IsSmall : ℕ → List ℕ → Type 0
IsSmall tag value = tag ≡ 0x12 → length value ≤ CONTENT_ITEM_LIMIT

-- ---- parts

abbrev pub item_of : Part → StreamItem
item_of part = record { tag = part_tag part; value = part_value part }

-- the bytes are the magic, the items of these parts, and what stands from `at` on
pub record ArePartsTo (bytes : List ℕ) (parts : List Part) (at : ℕ) : Type 0 where
  pub within : at ≤ length bytes
  pub spelled : bytes ≡ magic ++ (flat_map part_bytes parts ++ drop at bytes)
  pub few : length parts ≤ PARTS_LIMIT
  pub valid : All IsPart parts
  pub fits : All FitsPart parts

-- the tags that are expected behind so many parts
abbrev pub tags_behind : ℕ → List ℕ
tags_behind parts = tags_after false (nat_lt parts PARTS_LIMIT) None

-- an item that begins at `at` is that of a content or the end
pub record IsNextAt (bytes : List ℕ) (at : ℕ) (item : Item) : Type 0 where
  pub is : IsItemAt bytes at item.tag item.from item.to
  pub tagged : (item.tag ≡ 0x12) ⊎ (item.tag ≡ 0x1F)
  pub small : item.tag ≡ 0x12 → item.to ≤ item.from + CONTENT_ITEM_LIMIT

-- ---- contents

-- the name of the last content
abbrev pub last_name : List Carried → Option (List ℕ)
last_name [] = None
last_name (content ∷ []) = Some content.name
last_name (content ∷ next ∷ contents) = last_name (next ∷ contents)

-- a content of these parts that comes after these contents, with this value
pub record IsNextOf (parts : List Part) (last : Option (List ℕ)) (value : List ℕ) (content : Carried) : Type 0 where
  pub spelled : value ≡ content_value content
  pub is : IsContentOf parts content
  pub rises : ComesAfter last content.name

-- the bytes are the magic, the items of the parts and of these contents, and what stands from `at` on
pub record AreContentsTo (bytes : List ℕ) (parts : List Part) (contents : List Carried) (at : ℕ) : Type 0 where
  pub within : at ≤ length bytes
  pub spelled : bytes ≡ magic ++ (flat_map part_bytes parts ++ (flat_map content_bytes contents ++ drop at bytes))
  pub valid : All (IsContentOf parts) contents
