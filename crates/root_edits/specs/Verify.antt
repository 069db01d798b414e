-- How a tree differs from what troves record.
use Rattle.std.specs.Prelude.{◌≡◌, ℕ, ◌-◌, ◌^◌, min, Bool, false, ◌==◌, ◌||◌, if◌then◌else◌, List, [], ◌∷◌, ◌++◌, length, filter, Option, Some, None, IsSomeAnd, MatchBool, Contains}
use Rattle.std.specs.List.{cons_option, list_any}
use Rattle.std.specs.Option.{option_map}
use Rattle.std.specs.Str.{bytes_eq}
use Rattle.update_job.specs.cny-stream.declared.record.FileRec.{FileRec}
use Rattle.update_job.specs.cny-stream.declared.record.FileRec.TheVariants as rec
use Rattle.update_job.specs.trove-parts.declared.files.FileAt.{FileAt}
use Rattle.update_job.specs.trove-stream.declared.parts.TroveParts.{TroveParts}
use Rattle.tree_scan.specs.tree-disk.Rows.{bytes_at}
use Rattle.tree_scan.specs.tree-disk.Tree.{Name, Tree}
use Rattle.content_store.specs.Contents.{Answers, ContentMap, LacksAnswer}
use Rattle.tree_scan.specs.declared.mark.Mark.{Mark}
use Rattle.tree_scan.specs.declared.mark.Mark.TheVariants.{File, Link}
use Rattle.tree_scan.specs.declared.verification.Finding.{Finding}
use Rattle.tree_scan.specs.declared.verification.Found.{Found}
use Rattle.tree_scan.specs.declared.verification.Found.TheVariants.{Missing, Changed, Bytes}
use Rattle.tree_scan.specs.declared.verification.Verified.{Verified}
use Rattle.tree_scan.specs.Differing.{count_of_differing_bytes}
use Rattle.tree_scan.specs.Marks.{fingerprint_at, is_dir, is_nothing, same_mark}
pub use Rattle.cny_version.specs.cny-base.Sized.{of_size}
pub use Rattle.root_edits.specs.Local.{records}

-- ---- one path

-- whether this fingerprint is as the record tells: of a directory only that one stands, whatever its mode
abbrev pub stands_as : Mark → FileRec → Bool
stands_as mark (rec.Dir mode owner) = is_dir mark
stands_as mark (rec.File mode owner flags size name) = same_mark mark (File mode size name)
stands_as mark (rec.Link target) = same_mark mark (Link target)

-- a file with these bytes stands where another one is recorded: in how many bytes they differ, where the recorded content is known
abbrev pub changed_file : List ℕ → Option (List ℕ) → Found
changed_file stands None = Changed
changed_file stands (Some bytes) = Bytes (count_of_differing_bytes stands bytes)

-- something with this fingerprint stands at the path, and isn't as the record tells
abbrev pub change_at : ContentMap → Tree → Name → Mark → FileRec → Found
change_at map tree path (File m s n) (rec.File mode owner flags size name) = changed_file (bytes_at tree path) (of_size size (map name))
change_at map tree path _ _ = Changed

-- what is found at a recorded path
abbrev pub found_at : ContentMap → Tree → Name → FileRec → Option Found
found_at map tree path r =
    if is_nothing (fingerprint_at tree path) then Some Missing
    else if stands_as (fingerprint_at tree path) r then None
    else Some (change_at map tree path (fingerprint_at tree path) r)

-- ---- troves

abbrev pub finding_of : Name → Found → Finding
finding_of path what = record { path = path; what = what }

abbrev pub finding_at : ContentMap → Tree → FileAt → Option Finding
finding_at map tree file = option_map (finding_of file.path) (found_at map tree file.path file.rec)

-- at the recorded paths, in their order
abbrev pub findings : ContentMap → Tree → List FileAt → List Finding
findings map tree [] = []
findings map tree (file ∷ files) = cons_option (finding_at map tree file) (findings map tree files)

-- whether the trove is one of those asked for; with no names all are
abbrev pub is_asked : List Name → TroveParts → Bool
is_asked names t = length names == 0 || list_any (bytes_eq t.id.name) names

-- the troves asked for, each once, in the order of the list
abbrev pub asked : List Name → List TroveParts → List TroveParts
asked names troves = filter (is_asked names) troves

-- What is found of these troves: the paths that differ, and how many paths they record. (The count stays at its greatest value.)
abbrev pub verified : ContentMap → Tree → List TroveParts → Verified
verified map tree troves = record { lines = findings map tree (records troves); paths = min (length (records troves)) (2 ^ 64 - 1) }

-- ---- by what a source answers, whether or not it tells a map

-- What is found where a file with these bytes stands, and one of this size and name is recorded: by what is answered to the name.
pub record IsChangedFile (answers : Answers) (stands : List ℕ) (size : ℕ) (name : List ℕ) (found : Found) : Type 0 where
  pub content : Option (List ℕ)
  pub answer : answers name content
  pub is : found ≡ changed_file stands (of_size size content)

-- the same of something with this fingerprint that isn't as the record tells: contents are searched only for a file in a file's place
abbrev pub IsChangeAt : Answers → Tree → Name → Mark → FileRec → Found → Type 0
IsChangeAt answers tree path (File m s n) (rec.File mode owner flags size name) found = IsChangedFile answers (bytes_at tree path) size name found
IsChangeAt answers tree path _ _ found = found ≡ Changed

-- what is found at a recorded path
abbrev pub IsFoundAt : Answers → Tree → Name → FileRec → Option Found → Type 0
IsFoundAt answers tree path r found =
    MatchBool (is_nothing (fingerprint_at tree path)) (found ≡ Some Missing)
    (MatchBool (stands_as (fingerprint_at tree path) r) (found ≡ None) (IsSomeAnd found (IsChangeAt answers tree path (fingerprint_at tree path) r)))

-- at the recorded paths, in their order
abbrev pub AreFindings : Answers → Tree → List FileAt → List Finding → Type 0
AreFindings answers tree [] lines = lines ≡ []
AreFindings answers tree (file ∷ files) lines =
    (found : Option Found) × (rest : List Finding) × IsFoundAt answers tree file.path file.rec found × AreFindings answers tree files rest
    × (lines ≡ cons_option (option_map (finding_of file.path) found) rest)

-- these findings follow some others
pub record AreAdded (answers : Answers) (tree : Tree) (files : List FileAt) (old new : List Finding) : Type 0 where
  pub more : List Finding
  pub are : AreFindings answers tree files more
  pub is : new ≡ old ++ more

-- what is found of these troves: the paths that differ, and how many paths they record
pub record IsVerified (answers : Answers) (tree : Tree) (troves : List TroveParts) (found : Verified) : Type 0 where
  pub lines : AreFindings answers tree (records troves) found.lines
  pub paths : found.paths ≡ min (length (records troves)) (2 ^ 64 - 1)

-- ---- where a source has no answer

-- a content is searched that has no answer
abbrev pub LacksContent : Answers → Mark → FileRec → Type 0
LacksContent answers (File m s n) (rec.File mode owner flags size name) = LacksAnswer answers name
LacksContent answers _ _ = ⊥

-- a file stands in the place of a recorded one, whose content has no answer
pub record LacksAt (answers : Answers) (tree : Tree) (path : Name) (r : FileRec) : Type 0 where
  pub differs : stands_as (fingerprint_at tree path) r ≡ false
  pub lacks : LacksContent answers (fingerprint_at tree path) r

-- one of these paths is such
pub record LacksOne (answers : Answers) (tree : Tree) (files : List FileAt) : Type 0 where
  pub file : FileAt
  pub among : Contains files file
  pub lacks : LacksAt answers tree file.path file.rec
