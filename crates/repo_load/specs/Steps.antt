-- What a further commit makes of a repository, and what stands before its file is written.
use Rattle.std.specs.Prelude.{◌≡◌, ℕ, ◌+◌, ◌≤◌, List, [], ◌∷◌, ◌++◌, length, All, Some, None}
use Rattle.std.specs.FinMap.{get}
use Rattle.repo_index.specs.cny-base.declared.limits.TheConstants.{COMMITS_LIMIT}
use Rattle.journal_log.specs.tree-disk.Tree.{Tree}
use Rattle.content_store.specs.Contents.{ContentMap}
use Rattle.content_store.specs.Store.{content_path, stored}
use Rattle.journal_log.specs.declared.put.Want.TheVariants as want
use Rattle.journal_log.specs.declared.put.Put.{Put}
use Rattle.repo_index.specs.Catalogue.{CatalogueParts}
use Rattle.repo_load.specs.State.{Commit, HasRefs, IsCommit, RepositoryState}
use Rattle.repo_load.specs.Files.{commit_bytes, commit_file, contents_dir}

-- one commit more, with these contents
abbrev pub with_commit : Commit → ContentMap → RepositoryState → RepositoryState
with_commit troves contents r = record { commits = r.commits ++ troves ∷ []; contents = contents }

-- The tree x1 is x, made ready for the file of a further commit: the commits and their contents are as they were, the new
-- contents stand, and nothing stands at the name behind that of the new file.
pub record IsCommitReady (r new : RepositoryState) (x x1 : Tree) : Type 0 where
  pub commits : (number : ℕ) → number ≤ length r.commits + 1 → get x1 (commit_file number) ≡ get x (commit_file number)
  pub kept : (name bytes : List ℕ) → r.contents name ≡ Some bytes → get x1 (content_path contents_dir name) ≡ get x (content_path contents_dir name)
  pub added : (name bytes : List ℕ) → new.contents name ≡ Some bytes → stored x1 contents_dir name ≡ Some bytes
  pub nothing_behind : get x1 (commit_file (length r.commits + 2)) ≡ None

-- The tree x1 is x with the files of so many commits and the name behind them as they were, and nothing stands at the name
-- behind that.
pub record KeepsCommits (commits : ℕ) (x x1 : Tree) : Type 0 where
  pub same : (number : ℕ) → number ≤ commits + 1 → get x1 (commit_file number) ≡ get x (commit_file number)
  pub nothing_behind : get x1 (commit_file (commits + 2)) ≡ None

-- one commit more, of these troves
abbrev pub catalogue_with : Commit → CatalogueParts → CatalogueParts
catalogue_with troves c = record { commits = c.commits + 1; troves = c.troves ++ troves }

-- A commit of these troves may follow those of the catalogue: there is room for it, and each reference is the id of one of all
-- these troves.
pub record MayFollow (c : CatalogueParts) (troves : Commit) : Type 0 where
  pub few : c.commits + 1 ≤ COMMITS_LIMIT
  pub commit : IsCommit c.troves troves
  pub refs : All (HasRefs (c.troves ++ troves)) troves

-- the one write of a commit
abbrev pub commit_put : ℕ → ℕ → Commit → Put
commit_put number mode troves = record { path = commit_file number; want = want.File mode (commit_bytes troves) }
