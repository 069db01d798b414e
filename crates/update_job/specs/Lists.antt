-- The lists after an update and an erasure, and when there is none.
use Rattle.std.specs.Prelude.{◌≡◌, ℕ, ◌⊎◌, List, take, slice_get, Some, Contains}
use Rattle.change_set.specs.cny-base.declared.refusal.Fault.{Fault}
use Rattle.change_set.specs.cny-base.declared.refusal.Fault.TheVariants.{Refused, Memory}
use Rattle.change_set.specs.cny-base.declared.refusal.Refusal.{Refusal}
use Rattle.change_set.specs.cny-base.declared.refusal.Refusal.TheVariants as refusal
use Rattle.change_set.specs.trove-stream.Installed.{IsRising, IsPlaceOf, IsNameless}
use Rattle.change_set.specs.trove-parts.Id.{id_text_of}
use Rattle.change_set.specs.trove-stream.declared.parts.TroveParts.{TroveParts}
use Rattle.update_job.specs.Gone.{IsLeft}

-- the place of a trove with one of these names
pub record IsPlaceOfOne (list : List TroveParts) (IsNamed : List ℕ → Type 0) (place : ℕ) : Type 0 where
  pub name : List ℕ
  pub named : IsNamed name
  pub place_of : IsPlaceOf name list place

-- a trove of the list that doesn't go when those of these names are taken away
pub record Stays (list : List TroveParts) (IsNamed : List ℕ → Type 0) (t : TroveParts) : Type 0 where
  pub place : ℕ
  pub there : slice_get list place ≡ Some t
  pub left : IsLeft list (IsPlaceOfOne list IsNamed) place

-- ---- erasure

-- in name order, the troves that don't go with those of these names
pub record IsErased (list : List TroveParts) (names : List (List ℕ)) (new : List TroveParts) : Type 0 where
  pub rising : IsRising new
  pub stays : (t : TroveParts) → Contains new t → Stays list (Contains names) t
  pub all : (t : TroveParts) → Stays list (Contains names) t → Contains new t

-- the list has a trove of each of these names
abbrev pub AreInstalled : List TroveParts → List (List ℕ) → Type 0
AreInstalled list names = (name : List ℕ) → Contains names name → IsNameless name list → ⊥

-- a name of which the list has no trove, the first of these names that is one
pub record IsNotInstalled (list : List TroveParts) (names : List (List ℕ)) (refused : Refusal) : Type 0 where
  pub number : ℕ
  pub name : List ℕ
  pub there : slice_get names number ≡ Some name
  pub missing : IsNameless name list
  pub before : AreInstalled list (take number names)
  pub refusal_is : refused ≡ refusal.NotInstalled name

-- that refusal, or want of memory
abbrev pub IsUnerased : List TroveParts → List (List ℕ) → Fault → Type 0
IsUnerased list names (Refused refused) = IsNotInstalled list names refused
IsUnerased list names Memory = Unit {0}

-- ---- update

-- a trove of the list has the name
abbrev pub HasTroveOf : List TroveParts → List ℕ → Type 0
HasTroveOf list name = (t : TroveParts) × Contains list t × (t.id.name ≡ name)

-- a trove that doesn't go when those with the names of the new ones are taken away, and has none of their names
pub record IsOld (list come : List TroveParts) (t : TroveParts) : Type 0 where
  pub stays : Stays list (HasTroveOf come) t
  pub other : HasTroveOf come t.id.name → ⊥

-- in name order, the new troves and those
pub record IsUpdated (list come new : List TroveParts) : Type 0 where
  pub rising : IsRising new
  pub from : (t : TroveParts) → Contains new t → Contains come t ⊎ IsOld list come t
  pub fresh : (t : TroveParts) → Contains come t → Contains new t
  pub old : (t : TroveParts) → IsOld list come t → Contains new t

-- troves of one name are equal
abbrev pub IsOneOfEach : List TroveParts → Type 0
IsOneOfEach list = (t u : TroveParts) → Contains list t → Contains list u → t.id.name ≡ u.id.name → t ≡ u

-- a trove before which another of its name stands, the first such trove of the list
pub record IsSecond (list : List TroveParts) (refused : Refusal) : Type 0 where
  pub place : ℕ
  pub trove : TroveParts
  pub earlier : TroveParts
  pub there : slice_get list place ≡ Some trove
  pub before : Contains (take place list) earlier
  pub same_name : earlier.id.name ≡ trove.id.name
  pub differs : earlier ≡ trove → ⊥
  pub first : IsOneOfEach (take place list)
  pub refusal_is : refused ≡ refusal.Exists (id_text_of trove.id)

-- that refusal, or want of memory
abbrev pub IsUnupdated : List TroveParts → Fault → Type 0
IsUnupdated come (Refused refused) = IsSecond come refused
IsUnupdated come Memory = Unit {0}
