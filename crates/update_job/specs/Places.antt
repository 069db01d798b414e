-- Places of installed troves, as they are gathered.
use Rattle.std.specs.Prelude.{◌≡◌, ℕ, List, length, slice_get, Some, Contains, ◌++◌}
use Rattle.change_set.specs.trove-stream.Installed.{IsPlaceOf}
use Rattle.change_set.specs.trove-parts.declared.id.TroveId.{TroveId}
use Rattle.change_set.specs.trove-stream.declared.parts.TroveParts.{TroveParts}
use Rattle.update_job.specs.Gone.{IsPlace, LeadsPast, IsReached, IsLeft}
use Rattle.update_job.specs.Lists.{IsPlaceOfOne}
use Rattle.change_rel.specs.cny-base.Reach.{IsReachedIn}

-- the place of the trove of a name, where it isn't among the barred ones
pub record IsOpenPlace (list : List TroveParts) (barred : List ℕ) (name : List ℕ) (place : ℕ) : Type 0 where
  pub place_of : IsPlaceOf name list place
  pub free : Contains barred place → ⊥

-- such a place of one of these items
pub record IsPlaceOfItem {A : Type 0} (name_of : A → List ℕ) (list : List TroveParts) (barred : List ℕ) (items : List A) (place : ℕ) : Type 0 where
  pub item : A
  pub among : Contains items item
  pub place_of : IsOpenPlace list barred (name_of item) place

-- behind the places that were there stand such places of these items, so that those of all of them are there
pub record HasAddedPlaces {A : Type 0} (name_of : A → List ℕ) (list : List TroveParts) (barred : List ℕ) (items : List A) (old new : List ℕ) : Type 0 where
  pub more : List ℕ
  pub new_is : new ≡ old ++ more
  pub each : (place : ℕ) → Contains more place → IsPlaceOfItem name_of list barred items place
  pub all : (item : A) (place : ℕ) → Contains items item → IsOpenPlace list barred (name_of item) place → Contains new place

abbrev pub name_of_id : TroveId → List ℕ
name_of_id id = id.name

-- the same, with the ids to which the trove at a place refers
abbrev pub HasAddedRefs : List TroveParts → List ℕ → ℕ → List ℕ → List ℕ → Type 0
HasAddedRefs list barred place old new = (t : TroveParts) → slice_get list place ≡ Some t → HasAddedPlaces name_of_id list barred t.refs old new

-- just the places that the first ones reach without entering a barred one
pub record ArePlacesReached (list : List TroveParts) (barred starts places : List ℕ) : Type 0 where
  pub reached : (place : ℕ) → Contains places place → IsReachedIn (LeadsPast list (Contains barred)) (Contains starts) (length list) place
  pub all : (place : ℕ) → IsReachedIn (LeadsPast list (Contains barred)) (Contains starts) (length list) place → Contains places place

-- just the places that this one reaches
pub record ArePlacesFrom (list : List TroveParts) (start : ℕ) (places : List ℕ) : Type 0 where
  pub reached : (place : ℕ) → Contains places place → IsReached list (λ (p : ℕ). p ≡ start) place
  pub all : (place : ℕ) → IsReached list (λ (p : ℕ). p ≡ start) place → Contains places place

-- the same elements
pub record HasSame (old new : List ℕ) : Type 0 where
  pub there : (place : ℕ) → Contains old place → Contains new place
  pub back : (place : ℕ) → Contains new place → Contains old place

-- just the places of the list that aren't among these
pub record AreOthers (list : List TroveParts) (places others : List ℕ) : Type 0 where
  pub each : (place : ℕ) → Contains others place → IsPlace list place × (Contains places place → ⊥)
  pub all : (place : ℕ) → IsPlace list place → (Contains places place → ⊥) → Contains others place

-- all places of the list
abbrev pub ArePlaces : List TroveParts → List ℕ → Type 0
ArePlaces list places = (place : ℕ) → Contains places place → IsPlace list place

-- just the places of the troves that don't go
pub record ArePlacesLeft (list : List TroveParts) (roots places : List ℕ) : Type 0 where
  pub left : (place : ℕ) → Contains places place → IsLeft list (Contains roots) place
  pub all : (place : ℕ) → IsLeft list (Contains roots) place → Contains places place

-- just the places of the troves with these names
pub record ArePlacesOf (list : List TroveParts) (IsNamed : List ℕ → Type 0) (places : List ℕ) : Type 0 where
  pub each : (place : ℕ) → Contains places place → IsPlaceOfOne list IsNamed place
  pub all : (place : ℕ) → IsPlaceOfOne list IsNamed place → Contains places place
