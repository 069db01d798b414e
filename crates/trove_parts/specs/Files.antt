-- What a trove records of its paths.
use Rattle.std.specs.Prelude.{◌≡◌, ℕ, false, IsTrue, List, ◌++◌}
use Rattle.std.specs.Cmp.Lexicographic.{slice_cmp}
use Rattle.std.specs.Ordering.{nat_cmp}
use Rattle.std.specs.declared.cmp.Ordering.{Ordering}
use Rattle.cny_version.specs.cny-base.Path.{is_path}
use Rattle.cny_version.specs.cny-base.StrField.{str}
use Rattle.cny_stream.specs.declared.encoding.Encoding.{Encoding}
use Rattle.cny_stream.specs.Record.{FitsSize, IsFileRecord, is_owned_by_root, record_bytes}
use Rattle.trove_parts.specs.declared.files.FileAt.{FileAt}
use Rattle.trove_parts.specs.Items.{items_bytes, IsRisingList}

-- a path, and a file record
pub record IsFileAt (file : FileAt) : Type 0 where
  pub path : IsTrue (is_path file.path)
  pub rec : IsFileRecord file.rec

-- a file's size is within its limit
abbrev pub FitsFile : FileAt → Type 0
FitsFile file = FitsSize file.rec

-- the path as a field, and the record
abbrev pub file_value : Encoding → FileAt → List ℕ
file_value encoding file = str file.path ++ record_bytes encoding file.rec

abbrev pub path_of : FileAt → List ℕ
path_of file = file.path

-- by the bytes of the paths
abbrev pub file_cmp : FileAt → FileAt → Ordering
file_cmp a b = slice_cmp nat_cmp (path_of a) (path_of b)

-- their paths strictly rise
abbrev pub AreFiles : List FileAt → Type 0
AreFiles files = IsRisingList IsFileAt file_cmp files

abbrev pub files_bytes : Encoding → ℕ → List FileAt → List ℕ
files_bytes encoding tag files = items_bytes (file_value encoding) tag files

-- no directory or file that root owns; a link has no owner
abbrev pub HasOtherOwner : FileAt → Type 0
HasOtherOwner file = is_owned_by_root file.rec ≡ false
