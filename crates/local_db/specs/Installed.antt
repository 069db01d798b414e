-- Lists of installed troves.
use Rattle.std.specs.Prelude.{◌≡◌, Bool, ◌&&◌, ◌||◌, not, IsTrue, List, [], ◌∷◌, Option, Some, None, if◌then◌else◌, All}
use Rattle.std.specs.List.{AllPairs}
use Rattle.trove_stream.specs.Installed.{IsRising}
use Rattle.std.specs.Str.{bytes_eq}
use Rattle.trove_stream.specs.cny-stream.declared.record.FileRec.{FileRec}
use Rattle.trove_stream.specs.cny-stream.Record.{is_dir}
use Rattle.trove_stream.specs.trove-parts.declared.files.FileAt.{FileAt}
use Rattle.trove_stream.specs.declared.parts.TroveParts.{TroveParts}
use Rattle.trove_stream.specs.Trove.{IsTrove}
use Rattle.trove_stream.specs.Forbidden.{first_forbidden}
use Rattle.tree_journal.specs.tree-disk.Tree.{Name, same_name}
use Rattle.tree_scan.specs.declared.mark.Mark.{Mark}
use Rattle.tree_scan.specs.Marks.{fingerprint_of_record}

-- the record of a path
abbrev pub record_at : List FileAt → Name → Option FileRec
record_at [] path = None
record_at (file ∷ files) path = if same_name path file.path then Some file.rec else record_at files path

abbrev pub first_mark : Option FileRec → Option Mark → Option Mark
first_mark (Some rec) later = Some (fingerprint_of_record rec)
first_mark None later = later

-- the fingerprint that a list records at a path: that of the first trove which records the path
abbrev pub recorded : List TroveParts → Name → Option Mark
recorded [] path = None
recorded (t ∷ list) path = first_mark (record_at t.files path) (recorded list path)

-- two files are at two paths, or both are directories
abbrev pub are_apart : FileAt → FileAt → Bool
are_apart file other = not (bytes_eq file.path other.path) || (is_dir file.rec && is_dir other.rec)

-- at each path that both troves record, both record a directory
abbrev pub SharesDirsAlone : TroveParts → TroveParts → Type 0
SharesDirsAlone t u = All (λ (file : FileAt). All (λ (other : FileAt). IsTrue (are_apart file other)) u.files) t.files

-- The list of a system: troves whose names strictly rise; none records a path that no trove may record; and no two record
-- one path but as a directory.
pub record IsInstalled (list : List TroveParts) : Type 0 where
  pub troves : All IsTrove list
  pub rising : IsRising list
  pub allowed : All (λ t. first_forbidden t.files ≡ None) list
  pub unshared : AllPairs SharesDirsAlone list
