-- The places of the troves that some roots reach, as they are gathered.
use Rattle.std.specs.Prelude.{◌≡◌, ℕ, List, ◌++◌, Contains, eqb, slice_get, Some}
use Rattle.std.specs.List.{IsDistinct}
use Rattle.repo_index.specs.trove-parts.declared.id.TroveId.{TroveId}
use Rattle.repo_index.specs.trove-stream.declared.parts.TroveParts.{TroveParts}
use Rattle.repo_index.specs.Places.{IsPlaceOf}
use Rattle.trove_spec.specs.Expansion.{IsReached}

-- the place of a trove with one of these ids
pub record IsPlaceOfOne (troves : List TroveParts) (ids : List TroveId) (place : ℕ) : Type 0 where
  pub id : TroveId
  pub among : Contains ids id
  pub place_of : IsPlaceOf troves id place

-- behind the places that were there stand places of troves with these ids, so that those of all of them are there
pub record HasAddedPlaces (troves : List TroveParts) (ids : List TroveId) (old new : List ℕ) : Type 0 where
  pub more : List ℕ
  pub new_is : new ≡ old ++ more
  pub each : (place : ℕ) → Contains more place → IsPlaceOfOne troves ids place
  pub all : (id : TroveId) (place : ℕ) → Contains ids id → IsPlaceOf troves id place → Contains new place

-- the same, with the ids to which the trove at a place refers
abbrev pub HasAddedRefs : List TroveParts → ℕ → List ℕ → List ℕ → Type 0
HasAddedRefs troves place old new = (t : TroveParts) → slice_get troves place ≡ Some t → HasAddedPlaces troves t.refs old new

-- the places of just the troves that the roots reach, each once
pub record ArePlacesReached (troves : List TroveParts) (roots : List TroveId) (places : List ℕ) : Type 0 where
  pub distinct : IsDistinct eqb places
  pub reached : (place : ℕ) (t : TroveParts) → Contains places place → slice_get troves place ≡ Some t → IsReached troves roots t.id
  pub all : (place : ℕ) (t : TroveParts) → slice_get troves place ≡ Some t → IsReached troves roots t.id → Contains places place
  pub closed : (place next : ℕ) (t u : TroveParts) → Contains places place → slice_get troves place ≡ Some t → slice_get troves next ≡ Some u → Contains t.refs u.id → Contains places next
