-- Troves without a path that no trove may record, and the first that has one.
use Rattle.std.specs.Prelude.{◌≡◌, ℕ, List, ◌∷◌, ◌++◌, All, Some}
use Rattle.change_set.specs.cny-base.declared.refusal.Refusal.{Refusal}
use Rattle.change_set.specs.cny-base.declared.refusal.Refusal.TheVariants.{Reserved}
use Rattle.change_set.specs.trove-stream.declared.parts.TroveParts.{TroveParts}
use Rattle.change_set.specs.trove-stream.Forbidden.{first_forbidden}
pub use Rattle.change_rel.specs.trove-stream.Forbidden.{IsAllowed}

-- nor does any of these
abbrev pub AreAllowed : List TroveParts → Type 0
AreAllowed troves = All IsAllowed troves

-- The refusal names the first forbidden path of the trove.
pub record IsReserved (trove : TroveParts) (refusal : Refusal) : Type 0 where
  pub path : List ℕ
  pub first : first_forbidden trove.files ≡ Some path
  pub refused : refusal ≡ Reserved path

-- The refusal is that of the first of the troves that isn't allowed.
pub record IsFirstReserved (troves : List TroveParts) (refusal : Refusal) : Type 0 where
  pub front : List TroveParts
  pub trove : TroveParts
  pub behind : List TroveParts
  pub is : troves ≡ front ++ trove ∷ behind
  pub allowed : AreAllowed front
  pub reserved : IsReserved trove refusal
