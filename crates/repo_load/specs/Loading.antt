-- What is read of a repository's commits.
use Rattle.std.specs.Prelude.{◌≡◌, ◌≢◌, ℕ, ◌+◌, ◌≤◌, Bool, true, false, if◌then◌else◌, IsTrue, List, [], ◌∷◌, ◌++◌, length, map, All, Option, Some, None}
use Rattle.std.specs.FinMap.{get}
use Rattle.repo_index.specs.cny-base.declared.limits.TheConstants.{COMMITS_LIMIT}
use Rattle.journal_log.specs.tree-disk.Tree.{Name, Tree}
use Rattle.repo_index.specs.trove-stream.declared.parts.TroveParts.{TroveParts}
use Rattle.repo_index.specs.Catalogue.{CatalogueParts}
use Rattle.repo_load.specs.State.{Commit, troves_of, catalogue_of, AreCommits, AreFollowing, HasRefs}
use Rattle.repo_load.specs.Files.{commit_file, HoldsCatalogue, HoldsCommit, HoldsCommits, HoldsFirst, IsCommitStream}

-- ---- what callers know

-- the catalogue of commits that keep the rules
pub record IsCatalogue (catalogue : CatalogueParts) : Type 0 where
  pub commits : List Commit
  pub rules : AreCommits commits
  pub is : catalogue ≡ catalogue_of commits

-- there is a catalogue that the tree's files hold
abbrev pub HoldsSomeCatalogue : Tree → Type 0
HoldsSomeCatalogue tree = (catalogue : CatalogueParts) × HoldsCatalogue tree catalogue

-- how many troves each commit has that the tree's files hold
pub record HoldsCounts (tree : Tree) (counts : List ℕ) : Type 0 where
  pub commits : List Commit
  pub holds : HoldsCommits tree commits
  pub counts_are : counts ≡ map (λ (troves : Commit). length troves) commits

-- ---- one file

-- what is read at the name of this number's file: a commit, or that nothing stands there
abbrev pub ReadsCommit : ℕ → Tree → Option Commit → Type 0
ReadsCommit number tree (Some troves) = HoldsCommit tree number troves
ReadsCommit number tree None = get tree (commit_file number) ≡ None

-- something stands at the name of this number's file, and holds no commit
pub record LacksCommit (number : ℕ) (tree : Tree) (path : Name) : Type 0 where
  pub here : path ≡ commit_file number
  pub stands : get tree path ≢ None
  pub none : (troves : Commit) → HoldsCommit tree number troves → ⊥

-- the commit has a stream
pub record HasStream (troves : Commit) : Type 0 where
  pub bytes : List ℕ
  pub stream : IsCommitStream troves bytes

-- an answer to whether P holds
abbrev pub IsAnswer : Type 0 → Bool → Type 0
IsAnswer P true = P
IsAnswer P false = P → ⊥

-- ---- what is kept

-- what is kept of a trove: its id and its references, and all else where it is kept whole
abbrev pub kept : Bool → TroveParts → TroveParts
kept whole t = record {
  id = t.id;
  files = if whole then t.files else [];
  refs = t.refs;
  requires_ = if whole then t.requires_ else [];
  provides = if whole then t.provides else [];
}

-- the catalogue of commits, of whose troves this is kept
abbrev pub kept_catalogue : Bool → List Commit → CatalogueParts
kept_catalogue whole commits = record { commits = length commits; troves = map (kept whole) (troves_of commits) }

-- what is kept of commits that keep the rules
pub record IsKept (whole : Bool) (catalogue : CatalogueParts) : Type 0 where
  pub commits : List Commit
  pub rules : AreCommits commits
  pub is : catalogue ≡ kept_catalogue whole commits

-- what is kept of the commits that the tree's files hold, which keep the rules
pub record HoldsKept (whole : Bool) (tree : Tree) (catalogue : CatalogueParts) : Type 0 where
  pub commits : List Commit
  pub holds : HoldsCommits tree commits
  pub rules : AreCommits commits
  pub is : catalogue ≡ kept_catalogue whole commits

-- ---- many files

-- Commits that follow one another, what is kept of them, and how many troves each has. Where the tree is told, its first
-- files hold them.
pub record AreRead (whole told : Bool) (tree : Tree) (catalogue : CatalogueParts) (counts : List ℕ) : Type 0 where
  pub commits : List Commit
  pub first : IsTrue told → HoldsFirst tree 1 commits
  pub few : length commits ≤ COMMITS_LIMIT
  pub following : AreFollowing [] commits
  pub is : catalogue ≡ kept_catalogue whole commits
  pub counts_are : counts ≡ map (λ (troves : Commit). length troves) commits

-- the first commit with a trove that refers to one that isn't there has this number; numbers begin at 1
pub record IsFirstUnresolved (commits : List Commit) (number : ℕ) : Type 0 where
  pub before : List Commit
  pub commit : Commit
  pub after : List Commit
  pub is : commits ≡ before ++ commit ∷ after
  pub here : number ≡ length before + 1
  pub resolved : All (HasRefs (troves_of commits)) (troves_of before)
  pub missing : All (HasRefs (troves_of commits)) commit → ⊥

-- that number, where there is such a commit
abbrev pub FindsUnresolved : List Commit → Option ℕ → Type 0
FindsUnresolved commits (Some number) = IsFirstUnresolved commits number
FindsUnresolved commits None = All (HasRefs (troves_of commits)) (troves_of commits)

-- ---- counts

-- the file of this number holds a commit of so many troves
abbrev pub HasCount : ℕ → Tree → ℕ → Type 0
HasCount number tree count = (troves : Commit) × HoldsCommit tree number troves × (count ≡ length troves)

-- the file of this number holds no commit
abbrev pub LacksCount : ℕ → Tree → Name → Type 0
LacksCount number tree path = (troves : Commit) → HoldsCommit tree number troves → ⊥
