-- The first fault of bytes that are no change set: its kind and its place.
--
-- The bytes are taken item by item from the front, the magic first, as long as each is a good next one. What follows is at
-- fault, by the first of these rules that holds:
-- 1. An item whose tag isn't expected there is at fault at its first byte.
-- 2. A content whose item is longer than a name and the greatest size of a content is too large.
-- 3. Where the bytes end inside the item, or before it, the place is their length.
-- 4. Any other item is at fault at its first byte.
-- Behind the end item no tag is expected, so that the first further byte is at fault.
use Rattle.std.specs.Prelude.{◌≡◌, ◌≢◌, ◌⊎◌, ℕ, ◌-◌, Bool, true, false, ◌&&◌, ◌==◌, nat_lt, nat_le, IsTrue, if◌then◌else◌, List, [], ◌∷◌, ◌++◌, length, take, drop, flat_map, Contains, Option, Some, None}
use Rattle.std.specs.Int.{w32, from_be_bytes}
use Rattle.std.specs.Cmp.Lexicographic.{slice_cmp}
use Rattle.std.specs.Ordering.{nat_cmp}
use Rattle.std.specs.declared.cmp.Ordering.TheVariants.{Less}
use Rattle.sha1.specs.Sha1.{sha1}
use Rattle.trove_stream.specs.cny-base.declared.limits.TheConstants.{CONTENT_ITEM_LIMIT, PARTS_LIMIT}
use Rattle.trove_stream.specs.cny-base.Below.{begins_with}
use Rattle.trove_stream.specs.cny-base.declared.refusal.Refusal.{Refusal}
use Rattle.trove_stream.specs.cny-base.declared.refusal.Refusal.TheVariants.{Malformed, TooLarge}
use Rattle.trove_stream.specs.cny-base.declared.refusal.What.TheVariants.{Content}
use Rattle.trove_stream.specs.cny-base.declared.refusal.Fault.{Fault}
use Rattle.trove_stream.specs.cny-base.declared.refusal.Fault.TheVariants as fault
use Rattle.cny_stream.specs.Item.{FitsItem, item_bytes, is_expected, begins_unexpected, value_len}
use Rattle.change_set.specs.declared.change.Part.{Part}
use Rattle.change_set.specs.declared.change.Carried.{Carried}
use Rattle.change_set.specs.ChangeSet.{IsPart, part_tag, part_value, has_record, content_value, magic}

-- ---- good items

pub record StreamItem : Type 0 where
  pub tag : ℕ
  pub value : List ℕ

abbrev pub item_text : StreamItem → List ℕ
item_text item = item_bytes item.tag item.value

-- the item is that of this part
pub record IsItemOf (part : Part) (item : StreamItem) : Type 0 where
  pub valid : IsPart part
  pub tagged : item.tag ≡ part_tag part
  pub spelled : item.value ≡ part_value part

-- what was read of a change set: the items of its parts, the name of the last content, and whether the end item was there
pub record Progress : Type 0 where
  pub parts : List StreamItem
  pub last : Option (List ℕ)
  pub ended : Bool

-- right behind the magic
abbrev pub start : Progress
start = record { parts = []; last = None; ended = false }

-- A part may follow parts, as long as there are fewer than so many. A content or the end may follow until the end.
abbrev pub tags_after : Bool → Bool → Option (List ℕ) → List ℕ
tags_after true few last = []
tags_after false few (Some name) = 0x12 ∷ 0x1F ∷ []
tags_after false true None = 0x10 ∷ 0x11 ∷ 0x12 ∷ 0x1F ∷ []
tags_after false false None = 0x12 ∷ 0x1F ∷ []

abbrev pub expected_tags : Progress → List ℕ
expected_tags progress = tags_after progress.ended (nat_lt (length progress.parts) PARTS_LIMIT) progress.last

-- one of the items is that of a part, of which a file record has this name and this size
pub record IsRecorded (items : List StreamItem) (name : List ℕ) (size : ℕ) : Type 0 where
  pub item : StreamItem
  pub part : Part
  pub among : Contains items item
  pub is : IsItemOf part item
  pub has : IsTrue (has_record name size part)

abbrev pub ComesAfter : Option (List ℕ) → List ℕ → Type 0
ComesAfter None name = Unit {0}
ComesAfter (Some last) name = slice_cmp nat_cmp last name ≡ Less

-- a content whose name is its SHA-1, is recorded with its size, and comes after the last one
pub record IsNextContent (progress : Progress) (item : StreamItem) : Type 0 where
  pub content : Carried
  pub tagged : item.tag ≡ 0x12
  pub spelled : item.value ≡ content_value content
  pub hash : content.name ≡ sha1 content.bytes
  pub twenty : length content.name ≡ 20
  pub recorded : IsRecorded progress.parts content.name (length content.bytes)
  pub rises : ComesAfter progress.last content.name

abbrev pub IsEndItem : StreamItem → Type 0
IsEndItem item = (item.tag ≡ 0x1F) × (item.value ≡ [])

-- a good next item: its tag is expected, and it is a part, a content, or the end
pub record IsNext (progress : Progress) (item : StreamItem) : Type 0 where
  pub expected : IsTrue (is_expected (expected_tags progress) item.tag)
  pub fits : FitsItem item.value
  pub good : ((part : Part) × IsItemOf part item) ⊎ IsNextContent progress item ⊎ IsEndItem item

-- what was read with one item more
abbrev pub progress_after : Progress → StreamItem → Progress
progress_after progress item =
    if item.tag == 0x12 then record { parts = progress.parts; last = Some (take 20 item.value); ended = progress.ended }
    else if item.tag == 0x1F then record { parts = progress.parts; last = progress.last; ended = true }
    else record { parts = progress.parts ++ item ∷ []; last = progress.last; ended = progress.ended }

-- each item is a good next one
abbrev pub AreGood : Progress → List StreamItem → Type 0
AreGood progress [] = Unit {0}
AreGood progress (item ∷ items) = IsNext progress item × AreGood (progress_after progress item) items

-- what was read with all of them
abbrev pub progress_to : Progress → List StreamItem → Progress
progress_to progress [] = progress
progress_to progress (item ∷ items) = progress_to (progress_after progress item) items

-- the bytes begin with no good next item
abbrev pub NoneNext : Progress → List ℕ → Type 0
NoneNext progress bytes = (item : StreamItem) (rest : List ℕ) → bytes ≡ item_text item ++ rest → IsNext progress item → ⊥

-- ---- the rules

-- the length of the item at the front, whose first five bytes are there
abbrev pub stated_length : List ℕ → ℕ
stated_length bytes = from_be_bytes w32 (take 4 (drop 1 bytes))

abbrev pub begins_content : List ℕ → Bool
begins_content [] = false
begins_content (tag ∷ bytes) = tag == 0x12

abbrev pub is_oversized : List ℕ → Bool
is_oversized bytes = nat_le 5 (length bytes) && (begins_content bytes && nat_lt CONTENT_ITEM_LIMIT (stated_length bytes))

-- the place of an item: where the bytes end, or its first byte
abbrev pub place_of : ℕ → List ℕ → Option ℕ → Refusal
place_of total rest None = Malformed total
place_of total rest (Some len) = Malformed (total - length rest)

-- the fault of what is left of so many bytes, if no good item with one of these tags begins it
abbrev pub fault_of : List ℕ → ℕ → List ℕ → Refusal
fault_of tags total rest =
    if begins_unexpected tags rest then Malformed (total - length rest)
    else if is_oversized rest then TooLarge Content (stated_length rest - 20)
    else place_of total rest (value_len rest)

-- ---- the first fault

-- the bytes don't begin with the magic: where they are shorter the place is their length, else their first byte
pub record LacksMagic (bytes : List ℕ) (refusal : Refusal) : Type 0 where
  pub lacks : begins_with magic bytes ≡ false
  pub refused : refusal ≡ Malformed (if nat_lt (length bytes) (length magic) then length bytes else 0)

-- The bytes begin with the magic and good items, behind which no good item follows and the set hasn't just ended.
pub record StopsBehind (bytes : List ℕ) (refusal : Refusal) : Type 0 where
  pub items : List StreamItem
  pub rest : List ℕ
  pub spelled : bytes ≡ magic ++ (flat_map item_text items ++ rest)
  pub good : AreGood start items
  pub stops : NoneNext (progress_to start items) rest
  pub goes_on : (progress_to start items).ended ≡ true → rest ≢ []
  pub refused : refusal ≡ fault_of (expected_tags (progress_to start items)) (length bytes) rest

abbrev pub IsFirstFault : List ℕ → Refusal → Type 0
IsFirstFault bytes refusal = LacksMagic bytes refusal ⊎ StopsBehind bytes refusal

-- the refusal is the first fault, or memory ran out
abbrev pub IsFaultOf : List ℕ → Fault → Type 0
IsFaultOf bytes (fault.Refused refusal) = IsFirstFault bytes refusal
IsFaultOf bytes fault.Memory = Unit {0}

-- this refusal, or want of memory
abbrev pub IsRefusalOrMemory : Refusal → Fault → Type 0
IsRefusalOrMemory refusal (fault.Refused r) = r ≡ refusal
IsRefusalOrMemory refusal fault.Memory = Unit {0}
