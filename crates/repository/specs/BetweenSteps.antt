-- What the steps of making a change set find.
use Rattle.std.specs.Prelude.{◌≡◌, ◌≢◌, ◌↔◌, ℕ, List, length, Contains, Some}
use Rattle.std.specs.List.Sorted.{IsStrictlySortedBy}
use Rattle.sha1.specs.Sha1.{sha1}
use Rattle.repo_load.specs.trove-parts.declared.files.FileAt.{FileAt}
use Rattle.repo_load.specs.trove-stream.declared.parts.TroveParts.{TroveParts}
use Rattle.change_rel.specs.Sending.{content_of, name_cmp}
use Rattle.change_set.specs.declared.change.Carried.{Carried}
use Rattle.repo_load.specs.tree-disk.Tree.{Name, Tree}
use Rattle.repo_load.specs.content-store.Store.{stored}
use Rattle.repo_load.specs.Files.{contents_dir}
use Rattle.repo_load.specs.Contents.{IsDamagedContent}
use Rattle.repository.specs.Between.{SendsContent}

-- ---- names

-- the names of the contents that are sent, strictly rising
pub record AreNames (old fresh : List TroveParts) (names : List (List ℕ)) : Type 0 where
  pub rising : IsStrictlySortedBy name_cmp names
  pub each : (name : List ℕ) → Contains names name ↔ SendsContent old fresh name

-- ---- contents

-- the content's name, of 20 bytes, is the SHA-1 of its bytes
pub record IsHashed (content : Carried) : Type 0 where
  pub hash : sha1 content.bytes ≡ content.name
  pub twenty : length content.name ≡ 20

-- its bytes stand under its name
abbrev pub IsStoredAs : Tree → Carried → Type 0
IsStoredAs tree content = stored tree contents_dir content.name ≡ Some content.bytes

-- the content of one of the names is damaged at this path
pub record IsDamagedAmong (troves : List TroveParts) (names : List (List ℕ)) (tree : Tree) (path : Name) : Type 0 where
  pub name : List ℕ
  pub among : Contains names name
  pub damaged : IsDamagedContent troves name tree path

-- ---- sizes

-- this is the content of this name, and the only one
pub record IsNamed (contents : List Carried) (name : List ℕ) (content : Carried) : Type 0 where
  pub among : Contains contents content
  pub named : content.name ≡ name
  pub only : (other : Carried) → Contains contents other → other.name ≡ name → other ≡ content

-- no content has this name
abbrev pub IsUnnamed : List Carried → List ℕ → Type 0
IsUnnamed contents name = (content : Carried) → Contains contents content → content.name ≡ name → ⊥

-- the contents of this name have this size
abbrev pub SizeFits : List Carried → List ℕ → ℕ → Type 0
SizeFits contents name size = (content : Carried) → Contains contents content → content.name ≡ name → length content.bytes ≡ size

-- one of this name, which is the other name too, has another size
pub record IsOtherSize (contents : List Carried) (name : List ℕ) (size : ℕ) (other : List ℕ) : Type 0 where
  pub content : Carried
  pub among : Contains contents content
  pub named : content.name ≡ name
  pub sized : length content.bytes ≢ size
  pub is : other ≡ name

-- the contents have the sizes that the file's record tells with their names
abbrev pub FileFits : List Carried → FileAt → Type 0
FileFits contents file = (name : List ℕ) (size : ℕ) → content_of file.rec ≡ Some (name, size) → SizeFits contents name size

-- the file's record tells another size with this name
pub record FileHasOther (contents : List Carried) (file : FileAt) (other : List ℕ) : Type 0 where
  pub name : List ℕ
  pub size : ℕ
  pub content : content_of file.rec ≡ Some (name, size)
  pub is : IsOtherSize contents name size other

abbrev pub FilesFit : List Carried → List FileAt → Type 0
FilesFit contents files = (file : FileAt) → Contains files file → FileFits contents file

pub record FilesHaveOther (contents : List Carried) (files : List FileAt) (other : List ℕ) : Type 0 where
  pub file : FileAt
  pub among : Contains files file
  pub has : FileHasOther contents file other

abbrev pub AllFit : List Carried → List TroveParts → Type 0
AllFit contents troves = (t : TroveParts) → Contains troves t → FilesFit contents t.files

pub record HasOther (contents : List Carried) (troves : List TroveParts) (other : List ℕ) : Type 0 where
  pub trove : TroveParts
  pub there : Contains troves trove
  pub has : FilesHaveOther contents trove.files other
