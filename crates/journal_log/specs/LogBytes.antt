-- The bytes of a log.
use Rattle.std.specs.Prelude.{◌≡◌, ℕ, ◌<◌, ◌^◌, List, [], ◌∷◌, ◌++◌, length, flat_map, All}
use Rattle.std.specs.Int.{w16, w32, to_be_bytes}
use Rattle.tree_disk.specs.cny-base.StrField.{str}
use Rattle.cny_stream.specs.Item.{FitsItem, item_bytes}
use Rattle.tree_disk.specs.Tree.{Name}
use Rattle.journal_log.specs.declared.put.Want.{Want}
use Rattle.journal_log.specs.declared.put.Want.TheVariants.{Nothing, Dir, File, Link, Staged}
use Rattle.journal_log.specs.declared.put.Put.{Put}
use Rattle.journal_log.specs.WriteSet.{IsLoggable}

-- `CNYLG01` and a line feed
abbrev pub magic : List ℕ
magic = 67 ∷ 78 ∷ 89 ∷ 76 ∷ 71 ∷ 48 ∷ 49 ∷ 10 ∷ []

-- the tag of the item of a write; the bytes of a file have none
abbrev pub put_tag : Want → ℕ
put_tag Nothing = 0x30
put_tag (Dir mode) = 0x31
put_tag (Link target) = 0x32
put_tag (Staged mode number size name) = 0x34
put_tag (File mode bytes) = 0

-- the path, behind the mode of a directory or a file; then a link's target, or a staged file's number, size and digest
abbrev pub put_value : Name → Want → List ℕ
put_value path Nothing = path
put_value path (Dir mode) = to_be_bytes w16 mode ++ path
put_value path (Link target) = str path ++ str target
put_value path (Staged mode number size name) = to_be_bytes w16 mode ++ (str path ++ (to_be_bytes w32 number ++ (to_be_bytes w32 size ++ name)))
put_value path (File mode bytes) = []

abbrev pub put_bytes : Put → List ℕ
put_bytes p = item_bytes (put_tag p.want) (put_value p.path p.want)

-- the last item: the number of writes
abbrev pub end_bytes : ℕ → List ℕ
end_bytes number = item_bytes 0x3F (to_be_bytes w32 number)

-- the one log of a write set
abbrev pub log_bytes : List Put → List ℕ
log_bytes puts = magic ++ (flat_map put_bytes puts ++ end_bytes (length puts))

-- the length of the item fits in four bytes
abbrev pub FitsPut : Put → Type 0
FitsPut p = FitsItem (put_value p.path p.want)

-- The bytes are the log of these writes, whose number and lengths fit in four bytes.
pub record IsSpelled (puts : List Put) (bytes : List ℕ) : Type 0 where
  pub number : length puts < 2 ^ 32
  pub lengths : All FitsPut puts
  pub text : bytes ≡ log_bytes puts

-- The bytes are the log of this write set, which a log can hold.
pub record IsLogText (base : Name) (puts : List Put) (bytes : List ℕ) : Type 0 where
  pub loggable : IsLoggable base puts
  pub spelled : IsSpelled puts bytes
