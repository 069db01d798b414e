-- What a round keeps from the rounds before it.
use Rattle.std.specs.Prelude.{◌≡◌, ◌⊎◌, ℕ, ◌<◌, ◌≤◌, Bool, if◌then◌else◌, IsTrue, IsSome, List, [], ◌∷◌, ◌++◌, length, slice_get, slice_index, Contains, eqb, Some}
use Rattle.std.specs.BTreeSet.{BTreeSet, contains}
use Rattle.std.specs.Cmp.Lexicographic.{slice_cmp}
use Rattle.std.specs.List.{IsDistinct}
use Rattle.std.specs.Ordering.{nat_cmp}
use Rattle.repo_index.specs.cny-base.Reach.{IsReachedIn}
use Rattle.repo_index.specs.trove-parts.declared.id.TroveId.{TroveId}
use Rattle.repo_index.specs.trove-stream.declared.parts.TroveParts.{TroveParts}
use Rattle.repo_index.specs.trove-stream.Installed.{IsNameless}
use Rattle.repo_index.specs.Places.{IsPlaceOf}
use Rattle.trove_spec.specs.Expansion.{Refers, IsReached}
use Rattle.update_job.specs.ByName.{same}
use Rattle.update_job.specs.Lists.{HasTroveOf, IsErased}
use Rattle.sys_model.specs.declared.known.Known.{Known}
use Rattle.sys_model.specs.declared.round.Round.{Round}
use Rattle.sys_model.specs.Fit.{Fresh, place_of}
use Rattle.sys_model.specs.Held.{held, AreServedBut}
use Rattle.sys_model.specs.Providers.{AreNoted}

-- ---- what is reached

-- a trove stands at the place, and is reached in at most so many steps
pub record StandsReached (troves : List TroveParts) (roots : List TroveId) (steps place : ℕ) : Type 0 where
  pub trove : TroveParts
  pub stands : slice_get troves place ≡ Some trove
  pub reached : IsReachedIn (Refers troves) (Contains roots) steps trove.id

-- Places of troves that are reached, each in at most as many steps as there are places before it. Those of the roots are among them,
-- and those to which the first `done` of them refer.
pub record AreGathered (troves : List TroveParts) (roots : List TroveId) (places : List ℕ) (done : ℕ) : Type 0 where
  pub within : done ≤ length places
  pub steps : (i : ℕ) → i < length places → StandsReached troves roots i (slice_index places i)
  pub roots_in : (id : TroveId) (place : ℕ) → Contains roots id → IsPlaceOf troves id place → Contains places place
  pub refs_in : (i : ℕ) → i < done → (t u : TroveParts) (next : ℕ) → slice_get troves (slice_index places i) ≡ Some t → slice_get troves next ≡ Some u → Contains t.refs u.id
      → Contains places next

-- those that were there stand first
pub record HasMore {A : Type 0} (old new : List A) : Type 0 where
  pub more : List A
  pub new_is : new ≡ old ++ more

-- ---- what is noted

-- whether the name is among these
abbrev pub is_doubted : BTreeSet (List ℕ) → List ℕ → Bool
is_doubted doubted name = contains (slice_cmp nat_cmp) doubted name

-- the place is among these, and the trove there has this name
pub record IsNamedAt (troves : List TroveParts) (places : List ℕ) (name : List ℕ) (place : ℕ) : Type 0 where
  pub among : Contains places place
  pub trove : TroveParts
  pub there : slice_get troves place ≡ Some trove
  pub named : trove.id.name ≡ name

-- The name stands behind the others, where it is installed.
abbrev pub HasReplaced : List TroveParts → List ℕ → List (List ℕ) → List (List ℕ) → Type 0
HasReplaced installed name old new = ((new ≡ old ++ name ∷ []) × HasTroveOf installed name) ⊎ ((new ≡ old) × IsNameless name installed)

-- The place stands under the name, which is doubted, and replaced where it is installed.
pub record HasNoted (installed : List TroveParts) (name : List ℕ) (place : ℕ) (fresh fresh_after : Fresh) (doubted doubted_after : BTreeSet (List ℕ)) (replaced replaced_after : List (List ℕ)) : Type 0 where
  pub fresh_is : (other : List ℕ) → place_of fresh_after other ≡ (if same name other then Some place else place_of fresh other)
  pub own : IsTrue (is_doubted doubted_after name)
  pub still : (other : List ℕ) → IsTrue (is_doubted doubted other) → IsTrue (is_doubted doubted_after other)
  pub replaced_is : HasReplaced installed name replaced replaced_after

-- another place stands under the name
abbrev pub IsTaken : Fresh → List ℕ → ℕ → Type 0
IsTaken fresh name place = (other : ℕ) × (place_of fresh name ≡ Some other) × (other ≡ place → ⊥)

-- The troves at these places stand under their names, which are doubted, and replaced where they are installed.
pub record HasNotedAll (troves installed : List TroveParts) (places : List ℕ) (fresh fresh_after : Fresh) (doubted doubted_after : BTreeSet (List ℕ)) (replaced replaced_after : List (List ℕ)) : Type 0 where
  pub kept : (name : List ℕ) (place : ℕ) → place_of fresh name ≡ Some place → place_of fresh_after name ≡ Some place
  pub from : (name : List ℕ) (place : ℕ) → place_of fresh_after name ≡ Some place → (place_of fresh name ≡ Some place) ⊎ IsNamedAt troves places name place
  pub all : (place : ℕ) (t : TroveParts) → Contains places place → slice_get troves place ≡ Some t → place_of fresh_after t.id.name ≡ Some place
  pub still : (name : List ℕ) → IsTrue (is_doubted doubted name) → IsTrue (is_doubted doubted_after name)
  pub doubts : (place : ℕ) (t : TroveParts) → Contains places place → slice_get troves place ≡ Some t → IsTrue (is_doubted doubted_after t.id.name)
  pub more : HasMore replaced replaced_after
  pub replaces : (name : List ℕ) → Contains more.more name → IsSome (place_of fresh_after name) × HasTroveOf installed name
  pub replaces_all : (place : ℕ) (t : TroveParts) → Contains places place → slice_get troves place ≡ Some t → HasTroveOf installed t.id.name → Contains replaced_after t.id.name

-- Two troves of one name stand at two places: one of these, and another one of these or one that stood there before.
pub record HasTwo (troves : List TroveParts) (places : List ℕ) (fresh : Fresh) : Type 0 where
  pub place : ℕ
  pub among : Contains places place
  pub trove : TroveParts
  pub there : slice_get troves place ≡ Some trove
  pub other : ℕ
  pub differs : other ≡ place → ⊥
  pub stood : (place_of fresh trove.id.name ≡ Some other) ⊎ IsNamedAt troves places trove.id.name other

-- ---- roots that reach two troves of one name

pub record ReachTwo (troves : List TroveParts) (roots : List TroveId) : Type 0 where
  pub trove : TroveParts
  pub other : TroveParts
  pub there : Contains troves trove
  pub there_too : Contains troves other
  pub reached : IsReached troves roots trove.id
  pub reached_too : IsReached troves roots other.id
  pub one_name : trove.id.name ≡ other.id.name
  pub differ : trove ≡ other → ⊥

-- ---- the round

-- what comes, by its places and by its names: no two of one name
pub record AreByName (troves : List TroveParts) (places : List ℕ) (fresh : Fresh) : Type 0 where
  pub from : (name : List ℕ) (place : ℕ) → place_of fresh name ≡ Some place → IsNamedAt troves places name place
  pub all : (place : ℕ) (t : TroveParts) → Contains places place → slice_get troves place ≡ Some t → place_of fresh t.id.name ≡ Some place

-- just the names of what comes that are installed
pub record AreReplaced (installed : List TroveParts) (fresh : Fresh) (replaced : List (List ℕ)) : Type 0 where
  pub comes : (name : List ℕ) → Contains replaced name → IsSome (place_of fresh name)
  pub installed_ : (name : List ℕ) → Contains replaced name → HasTroveOf installed name
  pub all : (name : List ℕ) → IsSome (place_of fresh name) → HasTroveOf installed name → Contains replaced name

-- The round has what these roots reach, the installed troves that stay, and the names of all that may have a requirement that isn't met.
pub record IsRoundOf (troves installed : List TroveParts) (roots : List TroveId) (round : Round) : Type 0 where
  pub distinct : IsDistinct eqb round.places
  pub gathered : AreGathered troves roots round.places (length round.places)
  pub by_name : AreByName troves round.places round.fresh
  pub replaced : AreReplaced installed round.fresh round.replaced.items
  pub erased : IsErased installed round.replaced.items round.kept
  pub served : AreServedBut (held troves round.fresh round.kept) round.doubted

-- which installed troves stay is found out anew, and all names are doubted
pub record IsRenewed (troves installed : List TroveParts) (old new : Round) : Type 0 where
  pub places : new.places ≡ old.places
  pub fresh : new.fresh ≡ old.fresh
  pub replaced : new.replaced.items ≡ old.replaced.items
  pub erased : IsErased installed old.replaced.items new.kept
  pub comers : (place : ℕ) (t : TroveParts) → Contains old.places place → slice_get troves place ≡ Some t → IsTrue (is_doubted new.doubted t.id.name)
  pub stayers : (t : TroveParts) → Contains new.kept t → IsTrue (is_doubted new.doubted t.id.name)

-- The indices are those of the repository and of the installed troves.
pub record IsKnown (known : Known) : Type 0 where
  pub comers : AreNoted known.catalogue.now.troves known.comers
  pub stayers : AreNoted known.installed.now known.stayers
