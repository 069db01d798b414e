-- The files that store the state of a repository, in its private directory.
use Rattle.std.specs.Prelude.{◌≡◌, ◌≢◌, ℕ, ◌+◌, List, [], ◌∷◌, ◌++◌, length, codes, All, Some, None}
use Rattle.std.specs.Fmt.{decimal}
use Rattle.std.specs.FinMap.{get}
use Rattle.repo_index.specs.cny-base.Path.{join}
use Rattle.cny_stream.specs.Item.{FitsItem, item_bytes}
use Rattle.repo_index.specs.trove-parts.Items.{items_bytes}
use Rattle.repo_index.specs.trove-stream.declared.parts.TroveParts.{TroveParts}
use Rattle.repo_index.specs.trove-stream.Stream.{trove_bytes}
use Rattle.repo_index.specs.trove-stream.Trove.{IsTrove}
use Rattle.journal_log.specs.tree-disk.Tree.{Name, Tree}
use Rattle.content_store.specs.Store.{file_bytes, stored}
use Rattle.repo_index.specs.Catalogue.{CatalogueParts}
use Rattle.repo_load.specs.State.{Commit, AreCommits, catalogue_of, RepositoryState, IsRepository}

-- ---- names

abbrev pub repository_base : Name
repository_base = codes "/conaryrepo"

-- the file of a commit; numbers begin at 1
abbrev pub commit_file : ℕ → Name
commit_file number = join repository_base (codes "k." ++ decimal number)

-- the directory of the contents
abbrev pub contents_dir : Name
contents_dir = join repository_base (codes "c")

-- ---- the bytes of a commit

-- `CNYKM01` and a line feed
abbrev pub magic : List ℕ
magic = 67 ∷ 78 ∷ 89 ∷ 75 ∷ 77 ∷ 48 ∷ 49 ∷ 10 ∷ []

abbrev pub end_bytes : List ℕ
end_bytes = item_bytes 0x4F []

-- the one stream of a commit: the magic, an item for each trove, and the end item
abbrev pub commit_bytes : Commit → List ℕ
commit_bytes troves = magic ++ (items_bytes trove_bytes 0x40 troves ++ end_bytes)

-- the length of the trove's stream fits in four bytes
abbrev pub FitsTrove : TroveParts → Type 0
FitsTrove t = FitsItem (trove_bytes t)

-- the bytes are the stream of this commit
pub record IsCommitStream (troves : Commit) (bytes : List ℕ) : Type 0 where
  pub full : troves ≢ []
  pub troves_are : All IsTrove troves
  pub fits : All FitsTrove troves
  pub text : bytes ≡ commit_bytes troves

-- ---- what a tree holds

-- the file of this number holds this commit
pub record HoldsCommit (x : Tree) (number : ℕ) (troves : Commit) : Type 0 where
  pub bytes : List ℕ
  pub file : file_bytes (get x (commit_file number)) ≡ Some bytes
  pub stream : IsCommitStream troves bytes

-- the files of the numbers from this one on hold these commits, and there may be more
abbrev pub HoldsFirst : Tree → ℕ → List Commit → Type 0
HoldsFirst x number [] = Unit {0}
HoldsFirst x number (troves ∷ commits) = HoldsCommit x number troves × HoldsFirst x (number + 1) commits

-- the files from the first number on hold these commits, and nothing stands at the name of the next one
pub record HoldsCommits (x : Tree) (commits : List Commit) : Type 0 where
  pub first : HoldsFirst x 1 commits
  pub last : get x (commit_file (length commits + 1)) ≡ None

-- A tree stores this state: its files hold the commits, and each content stands under its name. Other names don't count.
pub record StoresRepository (x : Tree) (r : RepositoryState) : Type 0 where
  pub repository : IsRepository r
  pub commits : HoldsCommits x r.commits
  pub contents : (name bytes : List ℕ) → r.contents name ≡ Some bytes → stored x contents_dir name ≡ Some bytes

-- The catalogue is that of the commits that the tree's files hold, which keep the rules. Nothing is said of contents.
pub record HoldsCatalogue (x : Tree) (c : CatalogueParts) : Type 0 where
  pub commits : List Commit
  pub holds : HoldsCommits x commits
  pub rules : AreCommits commits
  pub is : c ≡ catalogue_of commits
