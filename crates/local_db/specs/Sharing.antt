-- Which paths troves share.
use Rattle.std.specs.Prelude.{◌≡◌, Bool, true, IsTrue, List, Some, None, All, Contains}
use Rattle.std.specs.BTreeMap.{BTreeMap, get}
use Rattle.std.specs.Cmp.Lexicographic.{slice_cmp}
use Rattle.std.specs.Ordering.{nat_cmp}
use Rattle.trove_stream.specs.cny-stream.Record.{is_dir}
use Rattle.trove_stream.specs.trove-parts.declared.files.FileAt.{FileAt}
use Rattle.tree_journal.specs.tree-disk.Tree.{Name}
use Rattle.local_db.specs.Installed.{are_apart}
pub use Rattle.trove_stream.specs.FilesOf.{files_of}

-- for each path whether a directory is recorded there
abbrev pub Kinds : Type 0
Kinds = BTreeMap Name Bool

abbrev pub kind_at : Kinds → Name → Rattle.std.specs.Prelude.Option Bool
kind_at kinds path = get (slice_cmp nat_cmp) kinds path

-- one of the files records this kind at the path
pub record Records (files : List FileAt) (path : Name) (kind : Bool) : Type 0 where
  pub file : FileAt
  pub in_files : Contains files file
  pub at_path : file.path ≡ path
  pub of_kind : is_dir file.rec ≡ kind

-- The map has each path of the files with a kind that one of them records there: that of a directory only where all do.
pub record AreNoted (files : List FileAt) (kinds : Kinds) : Type 0 where
  pub none : (path : Name) → kind_at kinds path ≡ None → All (λ (file : FileAt). file.path ≡ path → ⊥) files
  pub some : (path : Name) (kind : Bool) → kind_at kinds path ≡ Some kind → Records files path kind
  pub dirs : (path : Name) → kind_at kinds path ≡ Some true → All (λ (file : FileAt). file.path ≡ path → is_dir file.rec ≡ true) files

-- the file is at no path of the files, or it and all files there are directories
abbrev pub IsApart : List FileAt → FileAt → Type 0
IsApart files file = All (λ (other : FileAt). IsTrue (are_apart other file)) files

abbrev pub AreApart : List FileAt → List FileAt → Type 0
AreApart before files = All (IsApart before) files
