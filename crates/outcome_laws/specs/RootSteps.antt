-- What a command may make of a root, and the lists to which that can lead.
use Rattle.std.specs.Prelude.{◌≡◌, ◌⊎◌, ℕ, List, Result, Ok, Err, All}
use Rattle.conary_cli.specs.cli-call.cny-base.declared.refusal.Refusal.{Refusal}
use Rattle.conary_cli.specs.cli-call.trove-stream.declared.parts.TroveParts.{TroveParts}
use Rattle.conary_cli.specs.cli-call.journal-log.declared.put.Put.{Put}
use Rattle.conary_cli.specs.cli-call.conflict-plan.Plan.{IsUnshared}
use Rattle.conary_cli.specs.cli-call.cny-laws.State.{RootState, State, Effect, after}
use Rattle.conary_cli.specs.cli-call.system-core.Several.{CanTakeBackTo, rolled_back_to}
use Rattle.conary_cli.specs.root-commands.dep-closure.Closed.{IsClosed}
use Rattle.conary_cli.specs.cli-call.local-db.SystemState.{StackItem}
use Rattle.conary_cli.specs.cli-call.local-db.Steps.{after_job}

-- ---- lists

-- a closed list, of which no two troves record one path that isn't a directory in both
pub record IsSound (list : List TroveParts) : Type 0 where
  pub closed : IsClosed list
  pub unshared : IsUnshared list

-- the installed list, and the list before each job of the stack, to which a rollback leads back
pub record HasSoundLists (x : RootState) : Type 0 where
  pub installed : IsSound x.installed
  pub stacked : All (λ (o : StackItem). IsSound o.list) x.stack

-- ---- steps

-- a job with these writes, and with a sound list after it, stands on the stack
pub record IsJobStep (x y : RootState) : Type 0 where
  pub list : List TroveParts
  pub puts : List Put
  pub sound : IsSound list
  pub is : y ≡ after_job puts list x

-- the newest jobs, down to one of a number, were taken back
pub record IsBackStep (x y : RootState) : Type 0 where
  pub number : ℕ
  pub can : CanTakeBackTo x number
  pub is : y ≡ rolled_back_to number x

-- It is as it was; it has one more job; or it has its newest jobs no more.
abbrev pub IsRootStep : RootState → RootState → Type 0
IsRootStep x y = (y ≡ x) ⊎ (IsJobStep x y ⊎ IsBackStep x y)

-- an effect makes such a step of the root
abbrev pub StepsRoot : State → Result Effect Refusal → Type 0
StepsRoot s (Ok e) = IsRootStep s.root (after s e.change).root
StepsRoot s (Err r) = Unit {0}
