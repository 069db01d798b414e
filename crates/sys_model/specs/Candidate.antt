-- Which trove is added for a requirement that isn't met.
use Rattle.std.specs.Prelude.{◌≡◌, ℕ, ◌<◌, IsTrue, IsSome, List, take, slice_get, All, Contains, Some}
use Rattle.cny_dep.specs.Dep.{Dependency}
use Rattle.cny_dep.specs.declared.parts.Parts.{Parts}
use Rattle.cny_version.specs.Label.{LabelParts}
use Rattle.repo_index.specs.trove-stream.declared.parts.TroveParts.{TroveParts}
use Rattle.repo_index.specs.trove-stream.Installed.{IsNameless}
use Rattle.dep_closure.specs.Closed.{provides_of, IsSatisfiedBy}
use Rattle.trove_spec.specs.Resolve.{is_on, worth}

-- a trove on the label whose flavor fits the system, of a name that none of these has, which provides what is required
pub record IsCandidate (system : Parts) (found : List TroveParts) (require : Dependency) (label : LabelParts) (t : TroveParts) : Type 0 where
  pub on : IsTrue (is_on (Some label) t.id.version)
  pub fits : IsSome (worth system t)
  pub fresh : IsNameless t.id.name found
  pub provides : IsSatisfiedBy (provides_of t) require

-- the last of the troves for which this holds
pub record IsLast (Is : TroveParts → Type 0) (troves : List TroveParts) (t : TroveParts) : Type 0 where
  pub place : ℕ
  pub there : slice_get troves place ≡ Some t
  pub is : Is t
  pub none_later : (later : ℕ) (u : TroveParts) → place < later → slice_get troves later ≡ Some u → Is u → ⊥

-- it holds for none of the troves
abbrev pub IsForNone : (TroveParts → Type 0) → List TroveParts → Type 0
IsForNone Is troves = (t : TroveParts) → Contains troves t → Is t → ⊥

-- on the first of the labels on which there is such a trove, the last one
pub record IsChosen (IsOn : LabelParts → TroveParts → Type 0) (labels : List LabelParts) (troves : List TroveParts) (t : TroveParts) : Type 0 where
  pub number : ℕ
  pub label : LabelParts
  pub there : slice_get labels number ≡ Some label
  pub last : IsLast (IsOn label) troves t
  pub none_before : All (λ (other : LabelParts). IsForNone (IsOn other) troves) (take number labels)

-- there is none on any of the labels
abbrev pub HasNoChoice : (LabelParts → TroveParts → Type 0) → List LabelParts → List TroveParts → Type 0
HasNoChoice IsOn labels troves = All (λ (label : LabelParts). IsForNone (IsOn label) troves) labels
