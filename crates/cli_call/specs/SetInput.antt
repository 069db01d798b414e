-- Inputs that are change sets.
use Rattle.std.specs.Prelude.{◌≡◌, ◌⊎◌, ℕ, List, Result, Err}
use Rattle.cny_laws.specs.system-core.cny-base.declared.refusal.Refusal.{Refusal}
use Rattle.cny_laws.specs.system-core.change-set.declared.change.ChangeSet.{ChangeSet}
use Rattle.cny_laws.specs.system-core.change-set.ChangeSet.{IsSetStream}
use Rattle.cny_laws.specs.system-core.change-set.FirstFault.{IsFirstFault}
use Rattle.cny_laws.specs.State.{Effect}

-- the bytes are no change set's
abbrev pub IsNoSetStream : List ℕ → Type 0
IsNoSetStream bytes = (set : ChangeSet) → IsSetStream set bytes → ⊥

-- The change set that an input spells, which is one at most, decides the outcome.
pub record HasSetOutcome (IsSpelled : ChangeSet → Type 0) (IsOutcome : ChangeSet → Result Effect Refusal → Type 0) (outcome : Result Effect Refusal) : Type 0 where
  pub set : ChangeSet
  pub spelled : IsSpelled set
  pub is : IsOutcome set outcome

-- The bytes are no change set's, and refused by their first fault.
pub record HasSetFault (bytes : List ℕ) (outcome : Result Effect Refusal) : Type 0 where
  pub none : IsNoSetStream bytes
  pub fault : Refusal
  pub first : IsFirstFault bytes fault
  pub is : outcome ≡ Err fault

-- the outcome of a command that takes a change set
abbrev pub OfChangeSet : List ℕ → (ChangeSet → Result Effect Refusal → Type 0) → Result Effect Refusal → Type 0
OfChangeSet bytes IsOutcome outcome = HasSetOutcome (λ set. IsSetStream set bytes) IsOutcome outcome ⊎ HasSetFault bytes outcome
