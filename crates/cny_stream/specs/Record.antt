-- The bytes of a file record, as a function of the record.
use Rattle.std.specs.Prelude.{◌≡◌, ℕ, ◌+◌, ◌≤◌, Bool, true, false, ◌&&◌, ◌==◌, if◌then◌else◌, IsTrue, List, [], ◌∷◌, ◌++◌, length}
use Rattle.std.specs.Int.{w16, w32, to_be_bytes}
use Rattle.std.specs.Str.{bytes_eq}
use Rattle.cny_base.specs.declared.limits.TheConstants.{CONTENT_LIMIT}
use Rattle.cny_base.specs.StrField.{str}
use Rattle.cny_base.specs.Target.{is_target}
use Rattle.cny_stream.specs.declared.encoding.Encoding.{Encoding}
use Rattle.cny_stream.specs.declared.encoding.Encoding.TheVariants.{Compact, Explicit}
use Rattle.cny_stream.specs.declared.record.Flags.{Flags}
use Rattle.cny_stream.specs.declared.record.FileRec.{FileRec}
use Rattle.cny_stream.specs.declared.record.FileRec.TheVariants.{Dir, File, Link}
use Rattle.cny_stream.specs.Owner.{OwnerNames, is_owner, is_root, names}

-- ---- what has a spelling

-- a file's size is within its limit
abbrev pub FitsSize : FileRec → Type 0
FitsSize (Dir mode owner) = Unit {0}
FitsSize (File mode owner flags size name) = size ≤ CONTENT_LIMIT
FitsSize (Link target) = Unit {0}

abbrev pub IsFileRecord : FileRec → Type 0
IsFileRecord (Dir mode owner) = (mode ≤ 4095) × IsTrue (is_owner owner)
IsFileRecord (File mode owner flags size name) = (mode ≤ 4095) × (size ≤ CONTENT_LIMIT) × (length name ≡ 20) × IsTrue (is_owner owner)
IsFileRecord (Link target) = IsTrue (is_target target)

-- ---- facts over the fields

-- the flags of a file's record; a directory and a link have none
abbrev pub flags_of : FileRec → Flags
flags_of (Dir mode owner) = record { config = false; initial = false; transient = false }
flags_of (File mode owner flags size name) = flags
flags_of (Link target) = record { config = false; initial = false; transient = false }

abbrev pub is_dir : FileRec → Bool
is_dir (Dir mode owner) = true
is_dir (File mode owner flags size name) = false
is_dir (Link target) = false

-- a file whose contents have this name and this size
abbrev pub has_name_and_size : List ℕ → ℕ → FileRec → Bool
has_name_and_size name size (Dir mode owner) = false
has_name_and_size name size (File mode owner flags of_size of_name) = of_size == size && bytes_eq of_name name
has_name_and_size name size (Link target) = false

-- a directory or a file that root owns
abbrev pub is_owned_by_root : FileRec → Bool
is_owned_by_root (Dir mode owner) = is_root owner
is_owned_by_root (File mode owner flags size name) = is_root owner
is_owned_by_root (Link target) = false

-- ---- the bytes

abbrev pub worth : Bool → ℕ → ℕ
worth flag n = if flag then n else 0

abbrev pub flag_bits : Flags → ℕ
flag_bits flags = worth flags.config 1 + (worth flags.initial 2 + worth flags.transient 4)

-- whether the owner is named: always in the explicit encoding, and in the compact one where it isn't root
abbrev pub names_owner : Encoding → OwnerNames → Bool
names_owner encoding owner = names encoding (is_root owner)

-- the form: 2 where an owner is named, else 1
abbrev pub form_of : Bool → ℕ
form_of true = 2
form_of false = 1

-- the form, the kind, the flags, and the mode in two bytes
abbrev pub head : Bool → ℕ → ℕ → ℕ → List ℕ
head named kind flags mode = form_of named ∷ kind ∷ flags ∷ to_be_bytes w16 mode

-- the user and the group, where they are named
abbrev pub owner_bytes : Bool → OwnerNames → List ℕ
owner_bytes true owner = str owner.user ++ str owner.group
owner_bytes false owner = []

-- the head, the owner where it is named, and what comes then
abbrev pub owned : Bool → ℕ → ℕ → ℕ → OwnerNames → List ℕ → List ℕ
owned named kind flags mode owner rest = head named kind flags mode ++ (owner_bytes named owner ++ rest)

-- the kinds are `d`, `f` and `l`
abbrev pub record_bytes : Encoding → FileRec → List ℕ
record_bytes encoding (Dir mode owner) = owned (names_owner encoding owner) 100 0 mode owner []
record_bytes encoding (File mode owner flags size name) = owned (names_owner encoding owner) 102 (flag_bits flags) mode owner (to_be_bytes w32 size ++ name)
record_bytes encoding (Link target) = head false 108 0 0 ++ str target

-- these bytes, all of them, are a record's in this encoding
abbrev pub IsRecordBytes : Encoding → List ℕ → Type 0
IsRecordBytes encoding bytes = (rec : FileRec) × IsFileRecord rec × (bytes ≡ record_bytes encoding rec)

-- in change sets and commits
abbrev pub file_record_bytes : FileRec → List ℕ
file_record_bytes rec = record_bytes Compact rec

-- in databases and rollback records
abbrev pub full_record_bytes : FileRec → List ℕ
full_record_bytes rec = record_bytes Explicit rec
