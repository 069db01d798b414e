-- Troves that may be added, by their places in the catalogue.
use Rattle.std.specs.Prelude.{◌≡◌, ℕ, ◌≤◌, IsTrue, IsSome, List, Contains, Option, Some, None, slice_get}
use Rattle.std.specs.BTreeMap.{BTreeMap, get}
use Rattle.std.specs.Cmp.Lexicographic.{slice_cmp}
use Rattle.std.specs.Ordering.{nat_cmp}
use Rattle.cny_dep.specs.Dep.{Dependency}
use Rattle.cny_dep.specs.declared.parts.Parts.{Parts}
use Rattle.cny_version.specs.Label.{LabelParts}
use Rattle.repo_index.specs.trove-stream.declared.parts.TroveParts.{TroveParts}
use Rattle.dep_closure.specs.Closed.{provides_of, IsSatisfiedBy}
use Rattle.trove_spec.specs.Resolve.{is_on, worth}
use Rattle.sys_model.specs.declared.helping.Wish.{Wish}

-- by name: the place of a trove of the repository that comes
abbrev pub Fresh : Type 0
Fresh = BTreeMap (List ℕ) ℕ

abbrev pub place_of : Fresh → List ℕ → Option ℕ
place_of fresh name = get (slice_cmp nat_cmp) fresh name

-- a candidate, where what comes is known by name
pub record IsFit (system : Parts) (fresh : Fresh) (require : Dependency) (label : LabelParts) (t : TroveParts) : Type 0 where
  pub on : IsTrue (is_on (Some label) t.id.version)
  pub fits : IsSome (worth system t)
  pub is_new : place_of fresh t.id.name ≡ None
  pub provides : IsSatisfiedBy (provides_of t) require

-- the same of what is asked for
abbrev pub IsWished : Wish → LabelParts → TroveParts → Type 0
IsWished wish = IsFit wish.system.now wish.fresh.now wish.require.now

-- the trove at this place is one
pub record IsFitAt (Is : TroveParts → Type 0) (troves : List TroveParts) (place : ℕ) : Type 0 where
  pub trove : TroveParts
  pub there : slice_get troves place ≡ Some trove
  pub is : Is trove

-- at none of these places
abbrev pub IsNoneAmong : (TroveParts → Type 0) → List TroveParts → List ℕ → Type 0
IsNoneAmong Is troves places = (place : ℕ) → Contains places place → IsFitAt Is troves place → ⊥

-- the last of these places at which one stands
pub record IsLastAmong (Is : TroveParts → Type 0) (troves : List TroveParts) (places : List ℕ) (place : ℕ) : Type 0 where
  pub among : Contains places place
  pub fit : IsFitAt Is troves place
  pub last : (other : ℕ) → Contains places other → IsFitAt Is troves other → other ≤ place
