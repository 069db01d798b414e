-- What a crash leaves of both disks, told by states.
use Rattle.std.specs.Prelude.{◌≡◌, ◌⊎◌, ℕ, suc, List, length, Ok}
use Rattle.conary_cli.specs.cli-call.tree-disk.Tree.{Tree}
use Rattle.conary_cli.specs.cli-call.tree-disk.Disk.{DiskModel, IsImageOf}
use Rattle.conary_cli.specs.cli-call.tree-disk.Confined.{IsSynced}
use Rattle.conary_cli.specs.cli-call.cny-laws.Report.{End}
use Rattle.conary_cli.specs.cli-call.cny-laws.State.{State}
use Rattle.conary_cli.specs.cli-call.cny-laws.Store.{Recovers}
use Rattle.conary_cli.specs.cli-call.cny-laws.Stores.{root_store, repository_store}
use Rattle.conary_cli.specs.Lines.{CallLine}
use Rattle.outcome_laws.specs.Histories.{AfterLines}

-- ---- by states

-- Both trees, the one of the root and the one of the repository, recover to one of these states.
pub record RecoversIn (Is : State → Type 0) (image far : Tree) : Type 0 where
  pub state : State
  pub among : Is state
  pub root : Recovers root_store image state.root
  pub repo : Recovers repository_store far state.repository

-- Whatever a crash now leaves of the one disk and of the other recovers to one of these states.
abbrev pub CrashesTo : {T P : Type 0} → DiskModel T → DiskModel P → (State → Type 0) → T → P → Type 0
CrashesTo root_disk repo_disk Is root repo = (image far : Tree) → IsImageOf root_disk root image → IsImageOf repo_disk repo far → RecoversIn Is image far

-- ---- by the lines of a call

-- both trees recover to the state after the first so many of the lines
pub record RecoversAfter (lines : List CallLine) (s : State) (count : ℕ) (image far : Tree) : Type 0 where
  pub state : State
  pub after : AfterLines count lines s state
  pub root : Recovers root_store image state.root
  pub repo : Recovers repository_store far state.repository

-- Whatever a crash now leaves of both disks recovers to the state after the lines before the last one that was run, or after that one
-- too; and where the lines ended so that all were done, to the state after all.
pub record CrashesAfter {T P : Type 0} (root_disk : DiskModel T) (repo_disk : DiskModel P) (lines : List CallLine) (s : State) (end : End) (root : T) (repo : P) : Type 0 where
  pub count : ℕ
  pub each : (image far : Tree) → IsImageOf root_disk root image → IsImageOf repo_disk repo far → RecoversAfter lines s count image far ⊎ RecoversAfter lines s (suc count) image far
  pub all : end ≡ Ok tt → (image far : Tree) → IsImageOf root_disk root image → IsImageOf repo_disk repo far → RecoversAfter lines s (length lines) image far

-- ---- a crash

-- A disk after a crash: it reads something that the crash may have left, and nothing else can come of it.
pub record HasCrashed {D : Type 0} (disk : DiskModel D) (old new : D) : Type 0 where
  pub left : IsImageOf disk old (disk.reads new)
  pub synced : IsSynced disk new
