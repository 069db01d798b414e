-- Which file of a repository is damaged, the first one in the order of the commits.
use Rattle.std.specs.Prelude.{◌≡◌, ◌≢◌, ◌⊎◌, ◌+◌, ◌≤◌, List, [], ◌∷◌, ◌++◌, length, All, None}
use Rattle.std.specs.FinMap.{get}
use Rattle.repo_index.specs.cny-base.declared.limits.TheConstants.{COMMITS_LIMIT}
use Rattle.journal_log.specs.tree-disk.Tree.{Name, Tree}
use Rattle.repo_load.specs.State.{Commit, troves_of, IsCommit, AreFollowing, HasRefs}
use Rattle.repo_load.specs.Files.{commit_file, HoldsCommit, HoldsFirst, HoldsCommits}

-- The files before this one hold commits that follow one another, and what stands there holds none that follows them: it
-- isn't a file, or not in its grammar; a trove of it isn't allowed, or has an id that is committed already; or it is one
-- file too many.
pub record IsBadCommit (x : Tree) (path : Name) : Type 0 where
  pub commits : List Commit
  pub first : HoldsFirst x 1 commits
  pub few : length commits ≤ COMMITS_LIMIT
  pub following : AreFollowing [] commits
  pub here : path ≡ commit_file (length commits + 1)
  pub stands : get x path ≢ None
  pub none : (troves : Commit) → length commits + 1 ≤ COMMITS_LIMIT → HoldsCommit x (length commits + 1) troves → IsCommit (troves_of commits) troves → ⊥

-- All files hold commits that follow one another, and this is the first one with a trove that refers to one that isn't
-- committed.
pub record HasMissingRef (x : Tree) (path : Name) : Type 0 where
  pub before : List Commit
  pub commit : Commit
  pub after : List Commit
  pub holds : HoldsCommits x (before ++ commit ∷ after)
  pub few : length (before ++ commit ∷ after) ≤ COMMITS_LIMIT
  pub following : AreFollowing [] (before ++ commit ∷ after)
  pub here : path ≡ commit_file (length before + 1)
  pub resolved : All (HasRefs (troves_of (before ++ commit ∷ after))) (troves_of before)
  pub missing : All (HasRefs (troves_of (before ++ commit ∷ after))) commit → ⊥

-- the first file of a commit that isn't in its grammar, or else fails a cross-check
abbrev pub IsDamagedCommit : Tree → Name → Type 0
IsDamagedCommit x path = IsBadCommit x path ⊎ HasMissingRef x path
