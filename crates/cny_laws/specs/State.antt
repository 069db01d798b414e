-- What the two disks store, and what a command makes of it.
use Rattle.std.specs.Prelude.{◌≡◌, ◌⊎◌, ℕ, Bool, List, Result, Ok, Err}
use Rattle.system_core.specs.cny-base.declared.refusal.Refusal.{Refusal}
use Rattle.system_core.specs.tree-disk.Tree.{Tree}
use Rattle.repo_load.specs.State.{RepositoryState}
use Rattle.local_db.specs.SystemState.{SystemState}

-- what a root stores: its tree, the installed troves, and the stack of its jobs
abbrev pub RootState : Type 0
RootState = SystemState

-- the tree outside the private directory
abbrev pub tree_of : RootState → Tree
tree_of x = x.tree

-- what both disks store
pub record State : Type 0 where
  pub root : RootState
  pub repository : RepositoryState

-- A command changes nothing, or the root, or the repository.
pub data Change : Type 0 where
  nothing : Change
  on_root : RootState → Change
  on_repository : RepositoryState → Change

abbrev pub after : State → Change → State
after s nothing = s
after s (on_root x) = record { root = x; repository = s.repository }
after s (on_repository y) = record { root = s.root; repository = y }

-- what a command that isn't refused does, and the bytes that it answers
pub record Effect : Type 0 where
  pub change : Change
  pub out : List ℕ

-- What a command means: whether it takes an input, and which effects and refusals are its outcome on a state and an input. (The
-- tests that all commands share, of the fixed directories and of the input's limit, come before.)
pub record Meaning : Type 1 where
  pub takes_input : Bool
  pub IsOutcome : State → List ℕ → Result Effect Refusal → Type 0

-- What a command works on: the root alone, whatever the repository's disk tells or stores; the repository alone, whatever the root's
-- does; the root's tree outside its private directory and its installed list alone, whatever else both disks store; the same with all that
-- was read when the disks were opened, or also with contents of the repository, or with the records of the root's jobs; or only the lists
-- that were read then. And which of the disks it only reads.
pub record Scope : Type 0 where
  pub of_root : Bool
  pub of_repository : Bool
  pub of_tree : Bool
  pub of_opened : Bool
  pub of_contents : Bool
  pub of_records : Bool
  pub of_lists : Bool
  pub reads_root : Bool
  pub reads_repository : Bool

-- one disk at most stores another state
abbrev pub OneDisk : State → State → Type 0
OneDisk s t = (t.root ≡ s.root) ⊎ (t.repository ≡ s.repository)

-- An outcome is an effect that leads from the one state to the other, and its bytes are so.
pub record Takes (IsOutcome : Result Effect Refusal → Type 0) (s next : State) (HasBytes : List ℕ → Type 0) : Type 0 where
  pub effect : Effect
  pub is : IsOutcome (Ok effect)
  pub leads : next ≡ after s effect.change
  pub bytes : HasBytes effect.out

-- the state before, or that after an effect which is an outcome
abbrev pub IsNext : (Result Effect Refusal → Type 0) → State → State → Type 0
IsNext IsOutcome s next = (next ≡ s) ⊎ Takes IsOutcome s next (λ bytes. Unit {0})

-- a test's refusal is the outcome; where it passes, what comes then decides
abbrev pub Then : {A : Type 0} → Result A Refusal → (A → Result Effect Refusal → Type 0) → Result Effect Refusal → Type 0
Then (Ok x) IsOutcome outcome = IsOutcome x outcome
Then (Err r) IsOutcome outcome = outcome ≡ Err r
