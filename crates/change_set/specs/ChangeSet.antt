-- Change sets and their one spelling.
use Rattle.std.specs.Prelude.{◌≡◌, ℕ, ◌≤◌, Bool, IsTrue, List, [], ◌∷◌, ◌++◌, length, flat_map, All}
use Rattle.std.specs.Cmp.Lexicographic.{slice_cmp}
use Rattle.std.specs.List.{list_any}
use Rattle.std.specs.List.Sorted.{IsStrictlySortedBy}
use Rattle.std.specs.Ordering.{nat_cmp}
use Rattle.std.specs.declared.cmp.Ordering.{Ordering}
use Rattle.sha1.specs.Sha1.{sha1}
use Rattle.trove_stream.specs.cny-base.declared.limits.TheConstants.{PARTS_LIMIT}
use Rattle.cny_stream.specs.Item.{FitsItem, item_bytes}
use Rattle.trove_stream.specs.cny-stream.Record.{has_name_and_size}
use Rattle.trove_stream.specs.trove-parts.declared.files.FileAt.{FileAt}
use Rattle.trove_stream.specs.Rel.{IsRel}
use Rattle.trove_stream.specs.RelBytes.{rel_bytes}
use Rattle.trove_stream.specs.Stream.{trove_bytes}
use Rattle.trove_stream.specs.Trove.{IsTrove}
use Rattle.change_set.specs.declared.change.Part.{Part}
use Rattle.change_set.specs.declared.change.Part.TheVariants.{Whole, Relative}
use Rattle.change_set.specs.declared.change.Carried.{Carried}
use Rattle.change_set.specs.declared.change.ChangeSet.{ChangeSet}

-- ---- parts

abbrev pub IsPart : Part → Type 0
IsPart (Whole trove) = IsTrove trove
IsPart (Relative rel) = IsRel rel

abbrev pub part_tag : Part → ℕ
part_tag (Whole trove) = 0x10
part_tag (Relative rel) = 0x11

-- the stream of a trove or of a relative trove
abbrev pub part_value : Part → List ℕ
part_value (Whole trove) = trove_bytes trove
part_value (Relative rel) = rel_bytes rel

abbrev pub part_bytes : Part → List ℕ
part_bytes part = item_bytes (part_tag part) (part_value part)

-- the length of the stream fits in four bytes
abbrev pub FitsPart : Part → Type 0
FitsPart part = FitsItem (part_value part)

-- what a part records of paths: a trove its files, a relative trove those that it sets
abbrev pub files_of : Part → List FileAt
files_of (Whole trove) = trove.files
files_of (Relative rel) = rel.files_set

-- ---- contents

-- a file record of the part has this name and this size
abbrev pub has_record : List ℕ → ℕ → Part → Bool
has_record name size part = list_any (λ (file : FileAt). has_name_and_size name size file.rec) (files_of part)

-- the content's name is the SHA-1 of its bytes, of 20 bytes, and a file record of one of the parts has that name and their size
pub record IsContentOf (parts : List Part) (content : Carried) : Type 0 where
  pub hash : content.name ≡ sha1 content.bytes
  pub twenty : length content.name ≡ 20
  pub recorded : IsTrue (list_any (has_record content.name (length content.bytes)) parts)

-- by the bytes of the names
abbrev pub content_cmp : Carried → Carried → Ordering
content_cmp a b = slice_cmp nat_cmp a.name b.name

-- the name and the bytes
abbrev pub content_value : Carried → List ℕ
content_value content = content.name ++ content.bytes

abbrev pub content_bytes : Carried → List ℕ
content_bytes content = item_bytes 0x12 (content_value content)

-- ---- change sets

-- the contents of a change set: each that of one of its parts, the names strictly rising
pub record HasContents (set : ChangeSet) : Type 0 where
  pub contents : All (IsContentOf set.parts) set.contents
  pub rising : IsStrictlySortedBy content_cmp set.contents

pub record IsChangeSet (set : ChangeSet) : Type 0 where
  pub few : length set.parts ≤ PARTS_LIMIT
  pub parts : All IsPart set.parts
  pub fits : All FitsPart set.parts
  pub has_contents : HasContents set

-- `CNYCS01` and a line feed
abbrev pub magic : List ℕ
magic = 67 ∷ 78 ∷ 89 ∷ 67 ∷ 83 ∷ 48 ∷ 49 ∷ 10 ∷ []

abbrev pub end_bytes : List ℕ
end_bytes = item_bytes 0x1F []

-- the one stream of a change set: the magic, an item for each part, one for each content, and the end item
abbrev pub change_bytes : ChangeSet → List ℕ
change_bytes set = magic ++ (flat_map part_bytes set.parts ++ (flat_map content_bytes set.contents ++ end_bytes))

-- the bytes are the stream of this change set
pub record IsSetStream (set : ChangeSet) (bytes : List ℕ) : Type 0 where
  pub set_is : IsChangeSet set
  pub text : bytes ≡ change_bytes set
