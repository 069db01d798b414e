-- The troves that the parts of a change set make, and the first part that is refused.
use Rattle.std.specs.Prelude.{◌≡◌, ◌⊎◌, ℕ, List, ◌∷◌, ◌++◌, All, Option, Some, None, IsSome}
use Rattle.repo_load.specs.cny-base.declared.refusal.Refusal.{Refusal}
use Rattle.repo_load.specs.cny-base.declared.refusal.Refusal.TheVariants.{Exists, Reserved}
use Rattle.repo_load.specs.trove-parts.Id.{id_text_of}
use Rattle.repo_load.specs.trove-stream.declared.rel.RelParts.{RelParts}
use Rattle.repo_load.specs.trove-stream.declared.parts.TroveParts.{TroveParts}
use Rattle.repo_load.specs.trove-stream.Forbidden.{first_forbidden}
use Rattle.change_set.specs.declared.change.Part.{Part}
use Rattle.change_set.specs.Makes as makes
use Rattle.change_set.specs.Makes.{LacksTrove, MakesTrove}
use Rattle.repo_index.specs.Catalogue.{CatalogueParts, found, with_trove}
use Rattle.repo_load.specs.State.{AreNew}
use Rattle.change_rel.specs.trove-stream.Forbidden.{IsAllowed}

-- the base of a relative trove: the committed one that it names
abbrev pub base_among : List TroveParts → RelParts → Option TroveParts
base_among committed rel = found rel.old committed

-- each part makes the trove at its place
abbrev pub MakeTroves : List TroveParts → List Part → List TroveParts → Type 0
MakeTroves committed parts troves = makes.MakeTroves (base_among committed) parts troves

-- The parts make these troves, and none of them is refused: no id is one that is committed or comes twice, and no trove
-- records a forbidden path. A base is one that was committed before, and never an earlier part.
pub record AreMade (committed : List TroveParts) (parts : List Part) (troves : List TroveParts) : Type 0 where
  pub make : MakeTroves committed parts troves
  pub new_ids : AreNew committed troves
  pub allowed : All IsAllowed troves

-- ---- refusals

-- Why a trove is refused behind others: one of its id is there already; or, by the first forbidden path, what it records.
pub data IsTroveRefused (before : List TroveParts) (trove : TroveParts) (refusal : Refusal) : Type 0 where
  exists_already : IsSome (found trove.id before) → refusal ≡ Exists (id_text_of trove.id) → IsTroveRefused before trove refusal
  path_reserved : (path : List ℕ) → found trove.id before ≡ None → first_forbidden trove.files ≡ Some path → refusal ≡ Reserved path
      → IsTroveRefused before trove refusal

-- the part makes this trove, which is refused behind these
pub record MakesRefused (committed before : List TroveParts) (part : Part) (refusal : Refusal) : Type 0 where
  pub trove : TroveParts
  pub makes : MakesTrove (base_among committed) part trove
  pub refused : IsTroveRefused before trove refusal

-- Why a part is refused, where these troves are committed, and those stand before what it makes: its base is missing, or its
-- trove is refused.
abbrev pub IsPartRefused : List TroveParts → List TroveParts → Part → Refusal → Type 0
IsPartRefused committed before part refusal = LacksTrove (base_among committed) part refusal ⊎ MakesRefused committed before part refusal

-- The first part that is refused, and why: the parts before it make troves, none of which is refused.
pub record IsFirstRefused (committed : List TroveParts) (parts : List Part) (refusal : Refusal) : Type 0 where
  pub front : List Part
  pub troves : List TroveParts
  pub part : Part
  pub behind : List Part
  pub is : parts ≡ front ++ part ∷ behind
  pub made : AreMade committed front troves
  pub refused : IsPartRefused committed (committed ++ troves) part refusal

-- ---- one part more

-- the trove is added, and isn't refused behind those that are committed and added
pub record IsAdded (committed : List TroveParts) (trove : TroveParts) (old new : CatalogueParts) : Type 0 where
  pub fresh : found trove.id (committed ++ old.troves) ≡ None
  pub allowed : IsAllowed trove
  pub added : new ≡ with_trove old trove

-- the trove that a part makes is added
pub record HasPart (committed : List TroveParts) (part : Part) (old new : CatalogueParts) : Type 0 where
  pub trove : TroveParts
  pub makes : MakesTrove (base_among committed) part trove
  pub is_added : IsAdded committed trove old new
