-- What goes when some troves of an installed list are taken away. A trove is told by its place in the list.
use Rattle.std.specs.Prelude.{◌≡◌, ℕ, List, length, slice_get, Some, Contains}
use Rattle.change_set.specs.trove-stream.Installed.{IsPlaceOf}
use Rattle.change_set.specs.trove-parts.declared.id.TroveId.{TroveId}
use Rattle.change_set.specs.trove-stream.declared.parts.TroveParts.{TroveParts}
use Rattle.change_rel.specs.cny-base.Reach.{IsReachedIn}

-- a trove of the list stands there
abbrev pub IsPlace : List TroveParts → ℕ → Type 0
IsPlace list place = (t : TroveParts) × (slice_get list place ≡ Some t)

-- the trove at the first place has a reference with the name of the trove at the second, whatever its version
pub record Leads (list : List TroveParts) (from to : ℕ) : Type 0 where
  pub trove : TroveParts
  pub there : slice_get list from ≡ Some trove
  pub id : TroveId
  pub refers : Contains trove.refs id
  pub named : IsPlaceOf id.name list to

-- the same, where the second place isn't barred
pub record LeadsPast (list : List TroveParts) (IsBarred : ℕ → Type 0) (from to : ℕ) : Type 0 where
  pub leads : Leads list from to
  pub free : IsBarred to → ⊥

-- the roots and what they reach by references, in at most as many steps as the list has troves
abbrev pub IsReached : List TroveParts → (ℕ → Type 0) → ℕ → Type 0
IsReached list IsRoot place = IsReachedIn (Leads list) IsRoot (length list) place

-- a trove stands there, and the place isn't so
pub record IsPlaceNot (list : List TroveParts) (Is : ℕ → Type 0) (place : ℕ) : Type 0 where
  pub stands : IsPlace list place
  pub is_not : Is place → ⊥

-- a trove that the roots don't reach
abbrev pub IsOutside : List TroveParts → (ℕ → Type 0) → ℕ → Type 0
IsOutside list IsRoot place = IsPlaceNot list (IsReached list IsRoot) place

-- those and what they reach without entering a root
abbrev pub IsKept : List TroveParts → (ℕ → Type 0) → ℕ → Type 0
IsKept list IsRoot place = IsReachedIn (LeadsPast list IsRoot) (IsOutside list IsRoot) (length list) place

-- what the roots reach and nothing else keeps
pub record IsGone (list : List TroveParts) (IsRoot : ℕ → Type 0) (place : ℕ) : Type 0 where
  pub reached : IsReached list IsRoot place
  pub loose : IsKept list IsRoot place → ⊥

-- a trove that doesn't go
abbrev pub IsLeft : List TroveParts → (ℕ → Type 0) → ℕ → Type 0
IsLeft list IsRoot place = IsPlaceNot list (IsGone list IsRoot) place
