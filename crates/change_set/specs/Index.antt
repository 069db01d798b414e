-- The index of the file records of parts.
use Rattle.std.specs.Prelude.{◌≡◌, ℕ, Bool, ◌&&◌, ◌==◌, List}
use Rattle.std.specs.BTreeSet.{BTreeSet}
use Rattle.std.specs.List.{list_any}
use Rattle.std.specs.Str.{bytes_eq}
use Rattle.trove_stream.specs.cny-stream.Record.{has_name_and_size}
use Rattle.trove_stream.specs.trove-parts.declared.files.FileAt.{FileAt}
use Rattle.change_set.specs.declared.change.Part.{Part}
use Rattle.change_set.specs.declared.recorded.Key.{Key}
use Rattle.change_set.specs.declared.recorded.Index.{Index}
use Rattle.change_set.specs.ChangeSet.{has_record}

abbrev pub is_key : List ℕ → ℕ → Key → Bool
is_key name size key = key.size == size && bytes_eq key.name name

-- this name and this size are among the keys
abbrev pub has_key : List ℕ → ℕ → BTreeSet Key → Bool
has_key name size keys = list_any (is_key name size) keys.keys

-- the record of one of the files has this name and this size
abbrev pub has_file : List ℕ → ℕ → List FileAt → Bool
has_file name size files = list_any (λ (file : FileAt). has_name_and_size name size file.rec) files

-- a name and a size are among the keys exactly where a file record of a part has them
pub record IsIndexOf (parts : List Part) (index : Index) : Type 0 where
  pub same : (name : List ℕ) (size : ℕ) → has_key name size index.keys ≡ list_any (has_record name size) parts
