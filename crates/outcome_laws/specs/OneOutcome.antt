-- That a command has at most one outcome on a state and an input.
use Rattle.std.specs.Prelude.{◌≡◌, ℕ, List}
use Rattle.repo_load.specs.State.{IsRepository}
use Rattle.conary_cli.specs.cli-call.local-db.SystemState.{IsSystemState}
use Rattle.conary_cli.specs.cli-call.cny-laws.State.{Meaning, State}
use Rattle.conary_cli.specs.cli-call.cny-laws.WholeCall.{Outcome}

-- no two different ones are so
abbrev pub AtMostOne : {A : Type 0} → (A → Type 0) → Type 0
AtMostOne {A} Is = (one other : A) → Is one → Is other → one ≡ other

-- a state that disks can store: the root's system and the repository keep their rules
pub record IsState (s : State) : Type 0 where
  pub root : IsSystemState s.root
  pub repository : IsRepository s.repository

-- Two outcomes of a command of this meaning on one state and one input are equal, those of the tests that all commands share included.
abbrev pub HasOneOutcome : Meaning → Type 0
HasOneOutcome m = (s : State) (input : List ℕ) → IsState s → AtMostOne (Outcome m s input)
