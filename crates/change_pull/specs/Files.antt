-- Contents that stand in files of a directory, under their numbers.
use Rattle.std.specs.Prelude.{◌≡◌, ◌≢◌, ℕ, ◌+◌, ◌<◌, ◌≤◌, ◌^◌, IsTrue, List, [], ◌∷◌, ◌++◌, length, map, slice_get, Option, Some, None}
use Rattle.std.specs.FinMap.{get}
use Rattle.std.specs.Fmt.{decimal}
use Rattle.journal_log.specs.cny-base.Path.{is_path, join, root}
use Rattle.journal_log.specs.cny-base.Below.{is_below}
use Rattle.journal_log.specs.cny-base.declared.node.Node.{Node}
use Rattle.journal_log.specs.cny-base.declared.node.Node.TheVariants.{File}
use Rattle.journal_log.specs.tree-disk.Tree.{Name, Tree}
use Rattle.journal_log.specs.tree-disk.Rows.{is_dir_at, can_append, bytes_at}
use Rattle.change_set.specs.declared.change.Carried.{Carried}
use Rattle.change_pull.specs.declared.staged.Staged.{Staged}

-- the file of this number
abbrev pub number_path : Name → ℕ → Name
number_path dir number = join dir (decimal number)

-- a file of mode 0600 with these bytes
abbrev pub file_with : Option (List ℕ) → Option Node
file_with None = None
file_with (Some bytes) = Some (File 384 bytes)

-- Below the directory stand just these files, each under its number, counted from 0.
pub record HoldsFiles (tree : Tree) (dir : Name) (files : List (List ℕ)) : Type 0 where
  pub each : (number : ℕ) → number < 2 ^ 64 → get tree (number_path dir number) ≡ file_with (slice_get files number)
  pub others : (name : Name) → IsTrue (is_below dir name) → ((number : ℕ) → number < 2 ^ 64 → name ≢ number_path dir number) → get tree name ≡ None

-- Files may be made and grow under these numbers and all later ones.
pub record HasRoomFrom (tree : Tree) (dir : Name) (number : ℕ) : Type 0 where
  pub stands : IsTrue (is_dir_at tree dir)
  pub free : (later : ℕ) → number ≤ later → later < 2 ^ 32 → IsTrue (can_append tree (number_path dir later))

-- A directory that isn't `/` stands there, and nothing below it.
pub record IsEmptyDir (tree : Tree) (dir : Name) : Type 0 where
  pub path : IsTrue (is_path dir)
  pub not_root : dir ≢ root
  pub stands : IsTrue (is_dir_at tree dir)
  pub empty : (q : Name) → IsTrue (is_below dir q) → get tree q ≡ None

-- the files of these contents, and of what was written of the next one
abbrev pub files_of : List Carried → Option (List ℕ) → List (List ℕ)
files_of contents None = map (λ (c : Carried). c.bytes) contents
files_of contents (Some bytes) = map (λ (c : Carried). c.bytes) contents ++ bytes ∷ []

-- these contents as they stand, from this number on
abbrev pub staged_from : Name → ℕ → List Carried → List Staged
staged_from dir number [] = []
staged_from dir number (content ∷ contents) =
    record { name = content.name; size = length content.bytes; path = number_path dir number } ∷ staged_from dir (number + 1) contents

abbrev pub staged_of : Name → List Carried → List Staged
staged_of dir contents = staged_from dir 0 contents

-- a content, with the bytes of its file
abbrev pub carried_in : Tree → Staged → Carried
carried_in tree staged = record { name = staged.name; bytes = bytes_at tree staged.path }
