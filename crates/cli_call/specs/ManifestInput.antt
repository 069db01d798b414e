-- Inputs that are manifests.
use Rattle.std.specs.Prelude.{◌≡◌, ◌⊎◌, ℕ, List, Result, Err}
use Rattle.cny_laws.specs.system-core.cny-base.declared.refusal.Refusal.{Refusal}
use Rattle.cny_manifest.specs.declared.made.Made.{Made}
use Rattle.cny_manifest.specs.FirstFault.{IsFirstFault}
use Rattle.cny_manifest.specs.Makes.{Makes}
use Rattle.cny_laws.specs.State.{Effect}

-- What the manifest that the bytes are makes decides the outcome.
pub record HasManifestOutcome (bytes : List ℕ) (IsOutcome : Made → Result Effect Refusal → Type 0) (outcome : Result Effect Refusal) : Type 0 where
  pub made : Made
  pub makes : Makes bytes made
  pub is : IsOutcome made outcome

-- The bytes are refused by their first fault, or by the first content that differs from an earlier one of its name.
pub record HasManifestFault (bytes : List ℕ) (outcome : Result Effect Refusal) : Type 0 where
  pub fault : Refusal
  pub first : IsFirstFault bytes fault
  pub is : outcome ≡ Err fault

-- the outcome of a command that takes a manifest
abbrev pub OfManifest : List ℕ → (Made → Result Effect Refusal → Type 0) → Result Effect Refusal → Type 0
OfManifest bytes IsOutcome outcome = HasManifestOutcome bytes IsOutcome outcome ⊎ HasManifestFault bytes outcome
