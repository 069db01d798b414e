-- The troves that the parts of a change set make of installed ones, and the first part that is refused.
use Rattle.std.specs.Prelude.{◌≡◌, ◌⊎◌, List, ◌∷◌, ◌++◌, Option}
use Rattle.change_set.specs.cny-base.declared.refusal.Refusal.{Refusal}
use Rattle.change_set.specs.trove-stream.declared.rel.RelParts.{RelParts}
use Rattle.change_set.specs.trove-stream.declared.parts.TroveParts.{TroveParts}
use Rattle.change_set.specs.declared.change.Part.{Part}
use Rattle.change_set.specs.Makes.{LacksTrove, MakesTrove, MakeTroves}
use Rattle.change_set.specs.trove-stream.Installed.{trove_of}
use Rattle.update_job.specs.Allowed.{AreAllowed, IsReserved}
use Rattle.change_rel.specs.trove-stream.Forbidden.{IsAllowed}

-- the base of a relative trove: the installed one of its name
abbrev pub base_in : List TroveParts → RelParts → Option TroveParts
base_in installed rel = trove_of rel.old.name installed

-- the part makes this trove, and it is allowed
abbrev pub IsMade : List TroveParts → Part → TroveParts → Type 0
IsMade installed part trove = MakesTrove (base_in installed) part trove × IsAllowed trove

-- The parts make these troves, and all of them are allowed. A base is an installed trove, and never an earlier part. An id may be
-- that of an installed trove, and may come twice.
pub record AreMade (installed : List TroveParts) (parts : List Part) (troves : List TroveParts) : Type 0 where
  pub make : MakeTroves (base_in installed) parts troves
  pub allowed : AreAllowed troves

-- ---- refusals

-- the part makes this trove, which isn't allowed
pub record MakesReserved (installed : List TroveParts) (part : Part) (refusal : Refusal) : Type 0 where
  pub trove : TroveParts
  pub makes : MakesTrove (base_in installed) part trove
  pub reserved : IsReserved trove refusal

-- why a part is refused: its base is missing, or its trove isn't allowed
abbrev pub IsPartRefused : List TroveParts → Part → Refusal → Type 0
IsPartRefused installed part refusal = LacksTrove (base_in installed) part refusal ⊎ MakesReserved installed part refusal

-- The first part that is refused, and why: the parts before it make troves that are allowed.
pub record IsFirstRefused (installed : List TroveParts) (parts : List Part) (refusal : Refusal) : Type 0 where
  pub front : List Part
  pub troves : List TroveParts
  pub part : Part
  pub behind : List Part
  pub is : parts ≡ front ++ part ∷ behind
  pub made : AreMade installed front troves
  pub refused : IsPartRefused installed part refusal
