-- The installed troves that one of them reaches.
use Rattle.std.specs.Prelude.{◌≡◌, ℕ, List, Some, slice_get, Contains}
use Rattle.update_job.specs.trove-stream.Installed.{IsPlaceOf, IsRising}
use Rattle.update_job.specs.trove-stream.declared.parts.TroveParts.{TroveParts}
use Rattle.update_job.specs.Gone.{IsReached}

-- a trove of the list that the one of this name reaches by references with the names of installed ones, that one included
pub record IsReachedFrom (list : List TroveParts) (name : List ℕ) (t : TroveParts) : Type 0 where
  pub place : ℕ
  pub there : slice_get list place ≡ Some t
  pub reached : IsReached list (IsPlaceOf name list) place

-- just those, in the order of their names
pub record AreReached (list : List TroveParts) (name : List ℕ) (troves : List TroveParts) : Type 0 where
  pub rising : IsRising troves
  pub from : (t : TroveParts) → Contains troves t → IsReachedFrom list name t
  pub all : (t : TroveParts) → IsReachedFrom list name t → Contains troves t
