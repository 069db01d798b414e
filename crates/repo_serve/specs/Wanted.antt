-- The contents that go with files: just those that the files record, each with its size.
use Rattle.std.specs.Prelude.{◌≡◌, ◌≢◌, ◌↔◌, ℕ, Bool, true, List, length, map, flat_map, ◌++◌, [], All, Contains, Some}
use Rattle.std.specs.BTreeMap.{BTreeMap, get}
use Rattle.std.specs.Cmp.Lexicographic.{slice_cmp}
use Rattle.std.specs.List.{list_any}
use Rattle.std.specs.List.Sorted.{IsStrictlySortedBy}
use Rattle.std.specs.Map.{keys_of}
use Rattle.std.specs.Ordering.{nat_cmp}
use Rattle.sha1.specs.Sha1.{sha1}
use Rattle.repo_load.specs.trove-parts.declared.files.FileAt.{FileAt}
use Rattle.repo_load.specs.trove-stream.declared.parts.TroveParts.{TroveParts}
use Rattle.repo_load.specs.tree-disk.Tree.{Name, Tree}
use Rattle.repo_load.specs.content-store.Store.{content_path, stored}
use Rattle.repo_load.specs.Files.{contents_dir}
use Rattle.repo_index.specs.Catalogue.{is_file_sized}
use Rattle.repository.specs.change-set.ChangeSet.{change_bytes, content_bytes}
use Rattle.repository.specs.change-set.declared.change.Carried.{Carried}
use Rattle.repository.specs.change-set.declared.change.ChangeSet.{ChangeSet}
use Rattle.repository.specs.Between.{AreStoredIn, HasStored, LeadsBetween}
use Rattle.repository.specs.BetweenSteps.{IsHashed, IsStoredAs}
use Rattle.repo_mirror.specs.Absolute.{IsAbsoluteSet}

-- one of the files records this name with this size
abbrev pub records_size : List FileAt → List ℕ → ℕ → Bool
records_size files name size = list_any (is_file_sized name size) files

-- two sizes are recorded with the name
pub record HasTwoSizes (files : List FileAt) (name : List ℕ) : Type 0 where
  pub one : ℕ
  pub other : ℕ
  pub recorded : records_size files name one ≡ true
  pub also : records_size files name other ≡ true
  pub differ : one ≢ other

-- the map has the names that the files record, each with the one size that is recorded with it
abbrev pub AreSizesOf : List FileAt → BTreeMap (List ℕ) ℕ → Type 0
AreSizesOf files sizes = (name : List ℕ) (size : ℕ) → (get (slice_cmp nat_cmp) sizes name ≡ Some size) ↔ (records_size files name size ≡ true)

-- the same as a list, by strictly rising names
pub record AreWanted (files : List FileAt) (wanted : List (List ℕ × ℕ)) : Type 0 where
  pub rising : IsStrictlySortedBy (slice_cmp nat_cmp) (keys_of wanted)
  pub each : (name : List ℕ) (size : ℕ) → Contains wanted (name, size) ↔ (records_size files name size ≡ true)
  pub one : (name : List ℕ) (size other : ℕ) → records_size files name size ≡ true → records_size files name other ≡ true → size ≡ other

-- ---- contents that are written as they are read

-- the name and the size of a content
abbrev pub name_and_size : Carried → List ℕ × ℕ
name_and_size content = (content.name, length content.bytes)

-- A content of this name and size stands in the tree, and its item is behind what was there.
pub record HasCarriedOne (name : List ℕ) (size : ℕ) (tree : Tree) (old new : List ℕ) : Type 0 where
  pub content : Carried
  pub is : name_and_size content ≡ (name, size)
  pub hash : IsHashed content
  pub stands : IsStoredAs tree content
  pub put : new ≡ old ++ content_bytes content

-- the same of each of these, in their order
pub record HasCarried (wanted : List (List ℕ × ℕ)) (tree : Tree) (old new : List ℕ) : Type 0 where
  pub contents : List Carried
  pub are : map name_and_size contents ≡ wanted
  pub hashed : All IsHashed contents
  pub stand : AreStoredIn tree contents
  pub put : new ≡ old ++ flat_map content_bytes contents

-- at the path, which is that of the name, no bytes of this name and size stand
pub record IsOther (name : List ℕ) (size : ℕ) (tree : Tree) (path : Name) : Type 0 where
  pub here : path ≡ content_path contents_dir name
  pub none : (bytes : List ℕ) → stored tree contents_dir name ≡ Some bytes → sha1 bytes ≡ name → length bytes ≡ size → ⊥

-- the same of one of these
pub record IsOneOther (wanted : List (List ℕ × ℕ)) (tree : Tree) (path : Name) : Type 0 where
  pub name : List ℕ
  pub size : ℕ
  pub among : Contains wanted (name, size)
  pub other : IsOther name size tree path

-- The stream of the absolute change set of these troves, with the contents that stand in the tree, is behind what was there.
pub record HasPutSet (troves : List TroveParts) (tree : Tree) (old new : List ℕ) : Type 0 where
  pub set : ChangeSet
  pub sent : IsAbsoluteSet troves set
  pub leads : LeadsBetween [] troves set
  pub stand : HasStored tree set
  pub put : new ≡ old ++ change_bytes set
