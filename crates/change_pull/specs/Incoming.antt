-- Contents of a change set, in memory or in files.
use Rattle.std.specs.Prelude.{◌≡◌, ℕ, ◌<◌, Bool, ◌&&◌, ◌==◌, IsTrue, List, [], length, map, get_or, All, Option, Some, None}
use Rattle.std.specs.List.Sorted.{IsStrictlySortedBy}
use Rattle.std.specs.Str.{bytes_eq}
use Rattle.sha1.specs.Sha1.{sha1}
use Rattle.journal_log.specs.tree-disk.Tree.{Name, Tree}
use Rattle.journal_log.specs.tree-disk.Clear.{is_within}
use Rattle.journal_log.specs.tree-disk.Rows.{bytes_at, is_file_at}
use Rattle.change_set.specs.declared.change.Carried.{Carried}
use Rattle.change_set.specs.declared.change.Part.{Part}
use Rattle.change_set.specs.declared.change.ChangeSet.{ChangeSet}
use Rattle.change_set.specs.ChangeSet.{content_cmp}
use Rattle.change_pull.specs.declared.staged.Staged.{Staged}
use Rattle.change_pull.specs.Files.{carried_in, number_path}

-- ---- places and names

-- what is said to stand where a list has no content
abbrev pub no_content : Carried
no_content = record { name = []; bytes = [] }

abbrev pub content_at : List Carried → ℕ → Carried
content_at contents place = get_or contents place no_content

-- the content has this name and this size
abbrev pub is_carried : List ℕ → ℕ → Carried → Bool
is_carried name size content = bytes_eq content.name name && (length content.bytes == size)

-- ---- staged contents

-- the file of a staged content lies within this directory, and has the size that is told
pub record IsStaged (dir : Name) (tree : Tree) (one : Staged) : Type 0 where
  pub within : IsTrue (is_within dir one.path)
  pub size : length (bytes_at tree one.path) ≡ one.size

abbrev pub AreStaged : Name → Tree → List Staged → Type 0
AreStaged dir tree contents = All (IsStaged dir tree) contents

-- each has its SHA-1 as its name, and the names rise
pub record AreHashed (contents : List Carried) : Type 0 where
  pub hash : All (λ (content : Carried). content.name ≡ sha1 content.bytes) contents
  pub rising : IsStrictlySortedBy content_cmp contents

-- the staged content of a place: its file stands in the directory, under the number of the place
pub record StandsAtNumber (dir : Name) (tree : Tree) (place : ℕ) (one : Staged) : Type 0 where
  pub path : one.path ≡ number_path dir place
  pub stands : IsTrue (is_file_at tree one.path)

-- staged contents, each of the size that is told, under the number of its place, and with its SHA-1 as its name
pub record StandNumbered (dir : Name) (contents : List Staged) (tree : Tree) : Type 0 where
  pub staged : AreStaged dir tree contents
  pub each : (place : ℕ) (one : Staged) → place < length contents → one ≡ get_or contents place one → StandsAtNumber dir tree place one
  pub hashed : AreHashed (map (carried_in tree) contents)

-- the change set of these parts, with the contents that stand in files
abbrev pub staged_set : List Part → List Staged → Tree → ChangeSet
staged_set parts contents tree = record { parts = parts; contents = map (carried_in tree) contents }

-- these have the names of the staged ones
pub record HaveNames (contents : List Staged) (listed : List Carried) : Type 0 where
  pub many : length listed ≡ length contents
  pub each : (place : ℕ) (one : Staged) (content : Carried) → place < length contents → (get_or listed place content).name ≡ (get_or contents place one).name

-- these are the staged ones, by what a disk reads
pub record StandStaged (contents : List Staged) (dir : Name) (listed : List Carried) (tree : Tree) : Type 0 where
  pub are : listed ≡ map (carried_in tree) contents
  pub staged : AreStaged dir tree contents

-- what was read of a file
abbrev pub or_no_bytes : Option (List ℕ) → List ℕ
or_no_bytes None = []
or_no_bytes (Some bytes) = bytes
