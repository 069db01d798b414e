-- Which contents the receiver of a trove lacks.
use Rattle.std.specs.Prelude.{◌≡◌, ◌↔◌, ℕ, List, Option, Some, None, Contains}
use Rattle.std.specs.List.Sorted.{IsStrictlySortedBy}
use Rattle.trove_stream.specs.cny-stream.declared.record.FileRec.{FileRec}
use Rattle.trove_stream.specs.cny-stream.declared.record.FileRec.TheVariants.{Dir, File, Link}
use Rattle.trove_stream.specs.trove-parts.declared.files.FileAt.{FileAt}
use Rattle.trove_stream.specs.trove-parts.Files.{path_of}
use Rattle.std.specs.Cmp.Lexicographic.{slice_cmp}
use Rattle.std.specs.Ordering.{nat_cmp}
use Rattle.std.specs.declared.cmp.Ordering.{Ordering}

-- the contents of a file: its name and its size
abbrev pub content_of : FileRec → Option (List ℕ × ℕ)
content_of (Dir mode owner) = None
content_of (File mode owner flags size name) = Some (name, size)
content_of (Link target) = None

-- the files record this path with contents of this size and name
abbrev pub Records : List FileAt → List ℕ → ℕ → List ℕ → Type 0
Records files path size name = (file : FileAt) × Contains files file × (path_of file ≡ path) × (content_of file.rec ≡ Some (name, size))

-- The file has contents of this name, which the old files don't record at its path.
pub record IsSent (old : List FileAt) (name : List ℕ) (file : FileAt) : Type 0 where
  pub size : ℕ
  pub content : content_of file.rec ≡ Some (name, size)
  pub lacked : Records old (path_of file) size name → ⊥

-- one of the new files is sent under this name
abbrev pub SendsName : List FileAt → List FileAt → List ℕ → Type 0
SendsName old fresh name = (file : FileAt) × Contains fresh file × IsSent old name file

-- by their bytes
abbrev pub name_cmp : List ℕ → List ℕ → Ordering
name_cmp a b = slice_cmp nat_cmp a b

-- The names are those of the contents to send, strictly rising.
pub record AreSent (old fresh : List FileAt) (names : List (List ℕ)) : Type 0 where
  pub rising : IsStrictlySortedBy name_cmp names
  pub each : (name : List ℕ) → Contains names name ↔ SendsName old fresh name
