-- What the parts of a change set make, where bases of relative troves are found so.
use Rattle.std.specs.Prelude.{◌≡◌, List, [], ◌∷◌, Option, Some}
use Rattle.trove_stream.specs.cny-base.declared.refusal.Refusal.{Refusal}
use Rattle.trove_stream.specs.cny-base.declared.refusal.Refusal.TheVariants.{MissingBase}
use Rattle.trove_stream.specs.trove-parts.Id.{id_text_of}
use Rattle.trove_stream.specs.Leads.{Leads}
use Rattle.trove_stream.specs.declared.rel.RelParts.{RelParts}
use Rattle.trove_stream.specs.declared.parts.TroveParts.{TroveParts}
use Rattle.change_set.specs.declared.change.Part.{Part}
use Rattle.change_set.specs.declared.change.Part.TheVariants.{Whole, Relative}

-- the relative trove makes this trove of its base
pub record IsLedTo (base_of : RelParts → Option TroveParts) (rel : RelParts) (made : TroveParts) : Type 0 where
  pub base : TroveParts
  pub stands : base_of rel ≡ Some base
  pub leads : Leads rel base made

-- the trove that a part makes: its own, or that to which it leads
abbrev pub MakesTrove : (RelParts → Option TroveParts) → Part → TroveParts → Type 0
MakesTrove base_of (Whole trove) made = made ≡ trove
MakesTrove base_of (Relative rel) made = IsLedTo base_of rel made

-- each part makes the trove at its place
abbrev pub MakeTroves : (RelParts → Option TroveParts) → List Part → List TroveParts → Type 0
MakeTroves base_of [] [] = Unit {0}
MakeTroves base_of [] (trove ∷ troves) = ⊥
MakeTroves base_of (part ∷ parts) [] = ⊥
MakeTroves base_of (part ∷ parts) (trove ∷ troves) = MakesTrove base_of part trove × MakeTroves base_of parts troves

-- the base of a relative trove isn't there, or no trove comes of it
pub record LacksBase (base_of : RelParts → Option TroveParts) (rel : RelParts) (refusal : Refusal) : Type 0 where
  pub none : (made : TroveParts) → IsLedTo base_of rel made → ⊥
  pub refused : refusal ≡ MissingBase (id_text_of rel.old)

-- the part makes no trove
abbrev pub LacksTrove : (RelParts → Option TroveParts) → Part → Refusal → Type 0
LacksTrove base_of (Whole trove) refusal = ⊥
LacksTrove base_of (Relative rel) refusal = LacksBase base_of rel refusal
