-- The absolute change set of troves.
use Rattle.std.specs.Prelude.{◌≡◌, ◌↔◌, ℕ, true, List, length, map, Contains}
use Rattle.std.specs.List.{list_any}
use Rattle.std.specs.List.Sorted.{IsStrictlySortedBy}
use Rattle.change_set.specs.trove-parts.declared.files.FileAt.{FileAt}
use Rattle.change_set.specs.trove-stream.declared.parts.TroveParts.{TroveParts}
use Rattle.change_set.specs.trove-stream.FilesOf.{files_of}
use Rattle.change_set.specs.cny-stream.Record.{has_name_and_size}
use Rattle.change_set.specs.declared.change.Carried.{Carried}
use Rattle.change_set.specs.declared.change.ChangeSet.{ChangeSet}
use Rattle.change_set.specs.declared.change.Part.TheVariants.{Whole}
use Rattle.change_set.specs.ChangeSet.{content_cmp}
use Rattle.repo_index.specs.Catalogue.{is_file_of}

abbrev pub name_of : Carried → List ℕ
name_of content = content.name

-- the contents have the sizes that the records of these files tell with their names
abbrev pub AreSized : List FileAt → List Carried → Type 0
AreSized files contents = (content : Carried) (file : FileAt) (size : ℕ) → Contains contents content → Contains files file
    → has_name_and_size content.name size file.rec ≡ true → length content.bytes ≡ size

-- The set has these troves, each whole and in their order, and just the contents that their files name, each once, under its
-- name of 20 bytes, with the size that each record of it tells.
pub record IsAbsoluteSet (troves : List TroveParts) (set : ChangeSet) : Type 0 where
  pub parts : set.parts ≡ map Whole troves
  pub rising : IsStrictlySortedBy content_cmp set.contents
  pub each : (name : List ℕ) → Contains (map name_of set.contents) name ↔ (list_any (is_file_of name) (files_of troves) ≡ true)
  pub twenty : (content : Carried) → Contains set.contents content → length content.name ≡ 20
  pub sized : AreSized (files_of troves) set.contents
