-- Troves by their places.
use Rattle.std.specs.Prelude.{◌≡◌, ℕ, List, Some, slice_get, IsTrue}
use Rattle.std.specs.List.{filter_map}
use Rattle.trove_stream.specs.trove-parts.declared.id.TroveId.{TroveId}
use Rattle.trove_stream.specs.declared.parts.TroveParts.{TroveParts}
use Rattle.repo_index.specs.Catalogue.{has_id}

-- the troves at these places, in the order of the places
abbrev pub troves_at : List TroveParts → List ℕ → List TroveParts
troves_at troves places = filter_map (slice_get troves) places

-- the trove of this id stands at this place
pub record IsPlaceOf (troves : List TroveParts) (id : TroveId) (place : ℕ) : Type 0 where
  pub trove : TroveParts
  pub stands : slice_get troves place ≡ Some trove
  pub id_is : trove.id ≡ id

-- the trove that stands at this place has the texts of this id
pub record HasIdAt (troves : List TroveParts) (id : TroveId) (place : ℕ) : Type 0 where
  pub trove : TroveParts
  pub stands : slice_get troves place ≡ Some trove
  pub has : IsTrue (has_id id trove)
