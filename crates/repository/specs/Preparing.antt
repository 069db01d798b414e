-- What stands before the file of a commit is written, and how the writing of a commit goes.
use Rattle.std.specs.Prelude.{◌≡◌, ◌⊎◌, ◌+◌, ◌≤◌, Bool, false, ◌||◌, IsTrue, List, [], ◌∷◌, All, Contains, Some, None, Result, OnOk}
use Rattle.std.specs.FinMap.{get}
use Rattle.repo_load.specs.cny-base.declared.refusal.Refusal.{Refusal}
use Rattle.repo_load.specs.cny-base.declared.stop.Stop.{Stop}
use Rattle.repo_load.specs.trove-stream.declared.parts.TroveParts.{TroveParts}
use Rattle.repo_load.specs.trove-stream.Trove.{IsTrove}
use Rattle.repo_load.specs.tree-disk.Tree.{Name, Tree, same_name}
use Rattle.repo_load.specs.tree-disk.Clear.{is_within}
use Rattle.repo_load.specs.tree-disk.Rows.{is_dir_at}
use Rattle.repo_load.specs.tree-disk.Disk.{DiskModel}
use Rattle.repo_load.specs.tree-disk.Confined.{AgreesExcept, Among, Confined, IsSynced, IsUnsyncedOr, LeavesOnly}
use Rattle.repo_load.specs.journal-log.Own.{is_own, StoresSame}
use Rattle.repo_load.specs.journal-log.Targets.{with_targets}
use Rattle.tree_journal.specs.Preparing.{EndsWith}
use Rattle.tree_journal.specs.Recovery.{is_committed, RecoversTo}
use Rattle.change_set.specs.declared.change.Carried.{Carried}
use Rattle.repo_load.specs.content-store.Store.{content_path, stored}
use Rattle.repo_index.specs.Catalogue.{CatalogueParts, has_content}
use Rattle.repo_load.specs.Counts.{IsPreparedName}
use Rattle.repo_load.specs.Files.{commit_file, contents_dir, repository_base, FitsTrove}
use Rattle.repo_load.specs.Steps.{commit_put}
pub use Rattle.change_rel.specs.cny-base.Modes.{file_mode}

-- ---- the names that change before

-- It may be refused only where the disk doesn't tell its tree.
abbrev pub IsUntold : Bool → Refusal → Type 0
IsUntold told refusal = IsTrue told → ⊥

-- the two directories
abbrev pub is_dir_name : Name → Bool
is_dir_name q = same_name q repository_base || same_name q contents_dir

-- the content stands, if no trove records its name
abbrev pub IsStored : CatalogueParts → Carried → Tree → Type 0
IsStored c content tree = has_content content.name c.troves ≡ false → stored tree contents_dir content.name ≡ Some content.bytes

-- the same of each of these
abbrev pub AreStored : CatalogueParts → List Carried → Tree → Type 0
AreStored c contents tree = All (λ (content : Carried). IsStored c content tree) contents

-- the file of the content or a name below it, if no trove records its name
pub record IsPutName (c : CatalogueParts) (content : Carried) (q : Name) : Type 0 where
  pub unnamed : has_content content.name c.troves ≡ false
  pub within : IsTrue (is_within (content_path contents_dir content.name) q)

-- the file of one of these contents that no trove records, or a name below it
pub record IsCarriedName (c : CatalogueParts) (contents : List Carried) (q : Name) : Type 0 where
  pub content : Carried
  pub among : Contains contents content
  pub put : IsPutName c content q

-- The names that a commit of these contents writes: the two directories; the files of those contents that no trove records; the
-- file of the commit; the name behind that; and the journal's own. All else in the directory stays, as the files of all commits
-- that are there, and those of all other contents.
pub data IsWrittenName (c : CatalogueParts) (contents : List Carried) (q : Name) : Type 0 where
  base : q ≡ repository_base → IsWrittenName c contents q
  directory : q ≡ contents_dir → IsWrittenName c contents q
  content : IsCarriedName c contents q → IsWrittenName c contents q
  file : q ≡ commit_file (c.commits + 1) → IsWrittenName c contents q
  behind : IsTrue (is_within (commit_file (c.commits + 2)) q) → IsWrittenName c contents q
  own : IsTrue (is_own repository_base q) → IsWrittenName c contents q

-- The base and the new contents stand, and nothing at the name behind that of the new file.
pub record IsPreparedFor (c : CatalogueParts) (contents : List Carried) (tree : Tree) : Type 0 where
  pub base : IsTrue (is_dir_at tree repository_base)
  pub stand : AreStored c contents tree
  pub nothing_behind : get tree (commit_file (c.commits + 2)) ≡ None

-- ---- the commit's file

-- The tree x1 is x, made ready for the file of a commit: all else is as it was.
pub record IsPreparedFrom (c : CatalogueParts) (contents : List Carried) (x x1 : Tree) : Type 0 where
  pub kept : AgreesExcept (IsPreparedName c) x1 x
  pub ready : IsPreparedFor c contents x1

-- the tree with the file of a commit of these troves
abbrev pub with_commit_file : CatalogueParts → List TroveParts → Tree → Tree
with_commit_file c troves tree = with_targets (commit_put (c.commits + 1) file_mode troves ∷ []) tree

-- a tree that is made ready, with the commit's file, in which the streams of the troves have room
pub record IsWrittenFrom (c : CatalogueParts) (contents : List Carried) (troves : List TroveParts) (x y : Tree) : Type 0 where
  pub troves_are : All IsTrove troves
  pub fits : All FitsTrove troves
  pub readied : Tree
  pub is_readied : IsPreparedFrom c contents x readied
  pub same : StoresSame repository_base y (with_commit_file c troves readied)

-- The image recovers to a tree that differs from x at these names alone, or to one with the commit's file.
pub record RecoversSo (names : Name → Type 0) (c : CatalogueParts) (contents : List Carried) (troves : List TroveParts) (x image : Tree) : Type 0 where
  pub tree : Tree
  pub recovers : RecoversTo repository_base image tree
  pub is : AgreesExcept names tree x ⊎ IsWrittenFrom c contents troves x tree

-- How the writing of a commit goes, which changes names in the repository's directory alone: a crash at any moment, and an
-- error, leave a tree that recovers to one in which what counts is as it was, or to one with the commit's file; after Ok that
-- stands, and a crash leaves what is read.
pub record WritesCommit {D : Type 0} (disk : DiskModel D) (c : CatalogueParts) (contents : List Carried) (troves : List TroveParts) (old new : D) (result : Result Unit Stop) : Type 0 where
  pub later : disk.faults old ≤ disk.faults new
  pub ends : EndsWith disk.tells (IsUntold disk.tells) (IsWrittenFrom c contents troves (disk.reads old) (disk.reads new)) result (disk.faults old) (disk.faults new)
  pub flag_clear : IsTrue disk.tells → OnOk result (is_committed repository_base (disk.reads new) ≡ false)
  pub synced : IsTrue disk.tells → OnOk result (IsSynced disk new)
  pub any_moment : IsTrue disk.tells → LeavesOnly disk old new (RecoversSo (IsUnsyncedOr disk old (IsPreparedName c)) c contents troves (disk.reads old))
  pub stopped : IsTrue disk.tells → RecoversSo (IsPreparedName c) c contents troves (disk.reads old) (disk.reads new)
  pub confined : IsTrue disk.tells → Confined disk (Among (is_within repository_base)) old new
  pub only : IsTrue disk.tells → Confined disk (IsWrittenName c contents) old new
