-- Which names a stored state depends on, and which ones change before the file of a further commit is written.
use Rattle.std.specs.Prelude.{◌≡◌, ◌⊎◌, ℕ, ◌+◌, ◌≤◌, false, IsTrue, List, length, Some}
use Rattle.journal_log.specs.tree-disk.Tree.{Name}
use Rattle.journal_log.specs.tree-disk.Clear.{is_within}
use Rattle.content_store.specs.Store.{content_path, IsContentName}
use Rattle.repo_index.specs.Catalogue.{CatalogueParts, has_content}
use Rattle.repo_load.specs.State.{RepositoryState}
use Rattle.repo_load.specs.Files.{commit_file, contents_dir, repository_base}

-- the file of one of so many commits, or of the one behind them
pub record IsCommitName (commits : ℕ) (q : Name) : Type 0 where
  pub number : ℕ
  pub few : number ≤ commits + 1
  pub is : q ≡ commit_file number

-- the file of a content of this state
pub record IsContentOfState (r : RepositoryState) (q : Name) : Type 0 where
  pub name : List ℕ
  pub bytes : List ℕ
  pub holds : r.contents name ≡ Some bytes
  pub is : q ≡ content_path contents_dir name

-- The names on which it depends whether a tree stores this state: the files of its commits, the one behind them, where
-- nothing stands, and the files of its contents.
abbrev pub Counts : RepositoryState → Name → Type 0
Counts r q = IsCommitName (length r.commits) q ⊎ IsContentOfState r q

-- the file of a content that no trove names, or a name below it
pub record IsUnnamedContent (c : CatalogueParts) (q : Name) : Type 0 where
  pub name : List ℕ
  pub name_is : IsContentName name
  pub unnamed : has_content name c.troves ≡ false
  pub within : IsTrue (is_within (content_path contents_dir name) q)

-- The names that change before the file of a further commit is written: the two directories, the files of contents that no
-- trove names, and the name behind that of the new file, with all that lies below.
abbrev pub IsPreparedName : CatalogueParts → Name → Type 0
IsPreparedName c q = (q ≡ repository_base) ⊎ ((q ≡ contents_dir) ⊎ (IsUnnamedContent c q ⊎ IsTrue (is_within (commit_file (c.commits + 2)) q)))
