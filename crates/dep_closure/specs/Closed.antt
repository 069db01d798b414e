-- When a list of troves is closed.
use Rattle.std.specs.Prelude.{◌≡◌, ℕ, List, [], ◌∷◌, Some, slice_get, take, All, Contains}
use Rattle.trove_stream.specs.cny-base.declared.refusal.Fault.{Fault}
use Rattle.trove_stream.specs.cny-base.declared.refusal.Fault.TheVariants.{Refused, Memory}
use Rattle.trove_stream.specs.cny-base.declared.refusal.Refusal.TheVariants.{Unmet}
use Rattle.cny_dep.specs.declared.class.Class.TheVariants.{Trove}
use Rattle.cny_dep.specs.Dep.{Dependency, dep_text}
use Rattle.cny_dep.specs.Satisfies.{Satisfies}
use Rattle.trove_stream.specs.declared.parts.TroveParts.{TroveParts}

-- what a trove of this name provides by it
abbrev pub own_provide : List ℕ → Dependency
own_provide name = record { class = Trove; name = name; flags = [] }

-- what a trove provides: by its name, and what it lists
abbrev pub provides_of : TroveParts → List Dependency
provides_of t = own_provide t.id.name ∷ t.provides

-- one of these satisfies the requirement
pub record IsSatisfiedBy (provides : List Dependency) (require : Dependency) : Type 0 where
  pub provide : Dependency
  pub provided : Contains provides provide
  pub satisfies : Satisfies provide require

-- a trove of the list provides something that satisfies the requirement
pub record IsMet (list : List TroveParts) (require : Dependency) : Type 0 where
  pub trove : TroveParts
  pub there : Contains list trove
  pub by : IsSatisfiedBy (provides_of trove) require

-- each requirement of the trove is met by the list
abbrev pub HasAllMet : List TroveParts → TroveParts → Type 0
HasAllMet list t = All (IsMet list) t.requires_

-- each requirement of each trove of the list is met by the list
abbrev pub IsClosed : List TroveParts → Type 0
IsClosed list = All (HasAllMet list) list

-- ---- the first requirement that isn't met

-- the first of these requirements that isn't met, by what it means that one is
pub record IsFirstNotMet (Met : Dependency → Type 0) (required : List Dependency) (require : Dependency) : Type 0 where
  pub number : ℕ
  pub there : slice_get required number ≡ Some require
  pub met : All Met (take number required)
  pub unmet : Met require → ⊥

-- the first of these requirements that the list doesn't meet
abbrev pub IsFirstOf : List TroveParts → List Dependency → Dependency → Type 0
IsFirstOf list required require = IsFirstNotMet (IsMet list) required require

-- the first trove of the list that has a requirement which isn't met, and its first such requirement
pub record IsFirstUnmet (list : List TroveParts) (trove : TroveParts) (require : Dependency) : Type 0 where
  pub place : ℕ
  pub there : slice_get list place ≡ Some trove
  pub met : All (HasAllMet list) (take place list)
  pub first : IsFirstOf list trove.requires_ require

-- the refusal of the first requirement that isn't met, or want of memory
abbrev pub IsUnmetOrMemory : List TroveParts → Fault → Type 0
IsUnmetOrMemory list (Refused refusal) = (trove : TroveParts) × (require : Dependency) × IsFirstUnmet list trove require × (refusal ≡ Unmet trove.id.name (dep_text require))
IsUnmetOrMemory list Memory = Unit {0}
