-- What a job carries of its contents, in memory or in files of the journal's directory. A write may name such a file in place of
-- its bytes: then it means the write that has them.
use Rattle.std.specs.Prelude.{◌≡◌, ℕ, ◌<◌, IsTrue, List, length, map, get_or, Option, Some, None}
use Rattle.std.specs.List.{AllZip}
use Rattle.local_db.specs.cny-base.Reserved.{private_directory}
use Rattle.change_set.specs.declared.change.Carried.{Carried}
use Rattle.change_pull.specs.declared.staged.Staged.{Staged}
use Rattle.change_pull.specs.Files.{carried_in}
use Rattle.conflict_plan.specs.declared.planned.Planned.{Planned}
use Rattle.conflict_plan.specs.Plan as plan
use Rattle.local_db.specs.cny-stream.declared.record.FileRec.{FileRec}
use Rattle.local_db.specs.journal-log.declared.put.Put.{Put}
use Rattle.local_db.specs.journal-log.declared.put.Want.{Want}
use Rattle.local_db.specs.journal-log.declared.put.Want.TheVariants as want
use Rattle.local_db.specs.tree-disk.Rows.{bytes_at}
use Rattle.local_db.specs.tree-disk.Tree.{Tree}
use Rattle.local_db.specs.tree-journal.Staging.{has_content, resolve, resolved, AllStaged}
use Rattle.tree_scan.specs.declared.mark.Mark.{Mark}
use Rattle.content_store.specs.Contents.{Answers}
use Rattle.job_targets.specs.declared.entry.Entry.{Entry}
use Rattle.job_targets.specs.declared.targets.Targets.{Targets}
use Rattle.job_targets.specs.Contents.{carried_bytes, FindsElsewhere, of_size}
use Rattle.job_targets.specs.Agree.{AllAgree}
use Rattle.job_targets.specs.Outcome.{AreTargets}
use Rattle.job_targets.specs.Targets.{ArePutsOf, first_large, HaveEntries, IsFoundFile, IsPutOf, IsTarget}
use Rattle.job_targets.specs.Wanted.{mark_of_want}

-- ---- contents

-- The staged content at a place has this name and size, and its bytes are the carried ones; or none is carried.
pub record IsPlace (contents : List Staged) (tree : Tree) (size : ℕ) (name : List ℕ) (place : ℕ) : Type 0 where
  pub one : Staged
  pub within : place < length contents
  pub is : one ≡ get_or contents place one
  pub named : one.name ≡ name
  pub sized : one.size ≡ size
  pub carried : of_size size (carried_bytes (map (carried_in tree) contents) name) ≡ Some (bytes_at tree one.path)

abbrev pub IsPlaceOrNone : List Staged → Tree → ℕ → List ℕ → Option ℕ → Type 0
IsPlaceOrNone contents tree size name (Some place) = IsPlace contents tree size name place
IsPlaceOrNone contents tree size name None = of_size size (carried_bytes (map (carried_in tree) contents) name) ≡ None

-- ---- writes

-- A file with the carried content: its bytes are those, given or staged.
pub record IsCarriedFile (carried : List Carried) (tree : Tree) (mode size : ℕ) (name : List ℕ) (w : Want) : Type 0 where
  pub bytes : List ℕ
  pub found : of_size size (carried_bytes carried name) ≡ Some bytes
  pub is : resolved private_directory tree w ≡ want.File mode bytes
  pub stands : IsTrue (has_content private_directory tree w)

abbrev pub IsCarriedOrNone : List Carried → Tree → ℕ → ℕ → List ℕ → Option Want → Type 0
IsCarriedOrNone carried tree mode size name (Some w) = IsCarriedFile carried tree mode size name w
IsCarriedOrNone carried tree mode size name None = of_size size (carried_bytes carried name) ≡ None

-- a file with bytes that are found elsewhere
pub record IsElsewhereFile (answers : Answers) (tree : Tree) (x : Planned) (mode size : ℕ) (name : List ℕ) (w : Want) : Type 0 where
  pub bytes : List ℕ
  pub found : FindsElsewhere answers tree x size name (Some bytes)
  pub is : w ≡ want.File mode bytes

-- a file with the content that is found, and the one that a staged write names stands
pub record IsWholeFile (carried : List Carried) (answers : Answers) (tree : Tree) (x : Planned) (mode size : ℕ) (name : List ℕ) (w : Want) : Type 0 where
  pub file : IsFoundFile carried answers tree x mode size name (resolved private_directory tree w)
  pub stands : IsTrue (has_content private_directory tree w)

-- what is to stand at a planned path, by its record
pub record IsWholeTarget (carried : List Carried) (answers : Answers) (tree : Tree) (x : Planned) (rec : Option FileRec) (w : Want) : Type 0 where
  pub target : IsTarget carried answers tree x rec (resolved private_directory tree w)
  pub stands : IsTrue (has_content private_directory tree w)

-- the write of a planned path
pub record IsWholePut (carried : List Carried) (answers : Answers) (tree : Tree) (x : Planned) (p : Put) : Type 0 where
  pub path : p.path ≡ x.path
  pub target : IsWholeTarget carried answers tree x x.want p.want

abbrev pub AreWholePuts : List Carried → Answers → Tree → List Planned → List Put → Type 0
AreWholePuts carried answers tree = AllZip (IsWholePut carried answers tree)

-- the writes with the staged bytes, by the tree
abbrev pub whole_of : Tree → List Put → List Put
whole_of tree puts = map (resolve private_directory tree) puts

-- The writes, with their staged bytes, are those of the planned paths, and each staged file stands.
pub record AreStagedPuts (carried : List Carried) (answers : Answers) (tree : Tree) (planned : List Planned) (puts : List Put) : Type 0 where
  pub found : ArePutsOf carried answers tree planned (whole_of tree puts)
  pub stand : AllStaged private_directory tree puts

abbrev pub whole_targets : Tree → Targets → Targets
whole_targets tree t = record { puts = whole_of tree t.puts; entries = t.entries }

-- The targets, with their staged bytes, are those of the plan, and each staged file stands.
pub record AreStagedTargets (carried : List Carried) (answers : Answers) (planned : List Planned) (tree : Tree) (t : Targets) : Type 0 where
  pub targets : AreTargets carried answers planned tree (whole_targets tree t)
  pub stand : AllStaged private_directory tree t.puts

-- ---- on every disk, also on one that tells nothing

-- a write with this fingerprint, of which this holds
pub record IsWantOf (Gives : Want → Type 0) (mark_ : Mark) (w : Want) : Type 0 where
  pub gives : Gives w
  pub marked : mark_of_want w ≡ mark_

pub record HasWant (Gives : Want → Type 0) (x : Planned) (p : Put) : Type 0 where
  pub path : p.path ≡ x.path
  pub is : IsWantOf Gives (plan.mark_of_want x.want) p.want

abbrev pub HaveWants : (Want → Type 0) → List Planned → List Put → Type 0
HaveWants Gives = AllZip (HasWant Gives)

-- a write and an entry for each planned path, and the old contents of one SHA-1 are one content
pub record FitWants (Gives : Want → Type 0) (planned : List Planned) (t : Targets) : Type 0 where
  pub puts : HaveWants Gives planned t.puts
  pub entries : HaveEntries planned t.entries
  pub small : first_large planned ≡ None
  pub agree : AllAgree t.entries
