-- Which troves of a list some roots reach by references.
use Rattle.std.specs.Prelude.{◌≡◌, if◌then◌else◌, List, [], ◌∷◌, length, Contains, Option, Some, None}
use Rattle.std.specs.List.Sorted.{IsStrictlySortedBy}
use Rattle.std.specs.Str.{bytes_eq}
use Rattle.std.specs.declared.cmp.Ordering.{Ordering}
use Rattle.repo_index.specs.cny-base.declared.refusal.Fault.{Fault}
use Rattle.repo_index.specs.cny-base.declared.refusal.Fault.TheVariants.{Refused, Memory}
use Rattle.repo_index.specs.cny-base.declared.refusal.Refusal.{Refusal}
use Rattle.repo_index.specs.cny-base.declared.refusal.Refusal.TheVariants as refusal
use Rattle.repo_index.specs.trove-parts.declared.id.TroveId.{TroveId}
use Rattle.repo_index.specs.trove-parts.Id.{id_text_of}
use Rattle.repo_index.specs.trove-parts.Order.{id_cmp}
use Rattle.repo_index.specs.trove-stream.declared.parts.TroveParts.{TroveParts}
use Rattle.cny_version.specs.cny-base.Reach.{IsReachedIn}
pub use Rattle.repo_index.specs.trove-stream.NameOrder.{by_name_cmp, HasRisingNames}

-- ---- reach

-- a trove of the first id has a reference to the second
pub record Refers (troves : List TroveParts) (from to : TroveId) : Type 0 where
  pub trove : TroveParts
  pub there : Contains troves trove
  pub id_is : trove.id ≡ from
  pub refers : Contains trove.refs to

-- by references from the roots, in at most as many steps as the list has troves
abbrev pub IsReached : List TroveParts → List TroveId → TroveId → Type 0
IsReached troves roots id = IsReachedIn (Refers troves) (Contains roots) (length troves) id

-- ---- expansion

-- by their ids: by the names, then the texts of the versions, then those of the flavors
abbrev pub trove_cmp : TroveParts → TroveParts → Ordering
trove_cmp t u = id_cmp t.id u.id

-- the troves that the roots reach, each once, in the order of their ids
pub record IsExpansion (troves : List TroveParts) (roots : List TroveId) (found : List TroveParts) : Type 0 where
  pub rising : IsStrictlySortedBy trove_cmp found
  pub there : (t : TroveParts) → Contains found t → Contains troves t
  pub reached : (t : TroveParts) → Contains found t → IsReached troves roots t.id
  pub all : (t : TroveParts) → Contains troves t → IsReached troves roots t.id → Contains found t

-- a trove of the list to which one of those that are found refers is found
abbrev pub IsClosedIn : List TroveParts → List TroveParts → Type 0
IsClosedIn troves found = (t u : TroveParts) → Contains found t → Contains troves u → Contains t.refs u.id → Contains found u

-- ---- names

-- the first id whose name the one before it has
abbrev pub first_of_same_name : List TroveParts → Option TroveId
first_of_same_name [] = None
first_of_same_name (t ∷ []) = None
first_of_same_name (t ∷ u ∷ found) = if bytes_eq t.id.name u.id.name then Some u.id else first_of_same_name (u ∷ found)

-- The expansion has two ids of one name, and the refusal has the text of the first that has the name of the one before it.
pub record IsOfOneName (troves : List TroveParts) (roots : List TroveId) (refused : Refusal) : Type 0 where
  pub found : List TroveParts
  pub id : TroveId
  pub expansion : IsExpansion troves roots found
  pub first : first_of_same_name found ≡ Some id
  pub refusal_is : refused ≡ refusal.Exists (id_text_of id)

-- that refusal, or want of memory
abbrev pub IsUnexpanded : List TroveParts → List TroveId → Fault → Type 0
IsUnexpanded troves roots (Refused refused) = IsOfOneName troves roots refused
IsUnexpanded troves roots Memory = Unit {0}
