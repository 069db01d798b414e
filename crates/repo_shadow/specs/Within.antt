-- Troves that refer only to troves of their list.
use Rattle.std.specs.Prelude.{◌≡◌, List, All, Contains, IsSome}
use Rattle.repo_index.specs.trove-parts.declared.id.TroveId.{TroveId}
use Rattle.repo_index.specs.trove-stream.declared.parts.TroveParts.{TroveParts}
use Rattle.repo_index.specs.Catalogue.{found}

-- one of the troves has this id
pub record HasId (troves : List TroveParts) (id : TroveId) : Type 0 where
  pub trove : TroveParts
  pub there : Contains troves trove
  pub id_is : trove.id ≡ id

-- each reference of the trove is the id of one of the troves
abbrev pub RefersWithin : List TroveParts → TroveParts → Type 0
RefersWithin troves t = All (HasId troves) t.refs

-- and so of each trove
abbrev pub AllReferWithin : List TroveParts → Type 0
AllReferWithin troves = All (RefersWithin troves) troves

-- a search of the troves finds each reference of each of them
abbrev pub AllRefsAreFound : List TroveParts → Type 0
AllRefsAreFound troves = All (λ (t : TroveParts). All (λ (id : TroveId). IsSome (found id troves)) t.refs) troves
