-- How two installed lists differ.
use Rattle.std.specs.Prelude.{◌≡◌, ◌⊎◌, ℕ, if◌then◌else◌, List, Option, Some, Contains}
use Rattle.std.specs.BTreeMap.{BTreeMap, get}
use Rattle.std.specs.Cmp.Lexicographic.{slice_cmp}
use Rattle.std.specs.List.Sorted.{IsStrictlySortedBy}
use Rattle.std.specs.Ordering.{nat_cmp}
use Rattle.std.specs.declared.cmp.Ordering.{Ordering}
use Rattle.change_set.specs.trove-stream.Installed.{IsNameless}
use Rattle.change_set.specs.trove-stream.declared.parts.TroveParts.{TroveParts}
use Rattle.update_job.specs.declared.comparing.Change.{Change}
use Rattle.update_job.specs.declared.comparing.Change.TheVariants.{Installed, Updated, Erased}
use Rattle.update_job.specs.ByName.{same}

-- the name of the trove that changes
abbrev pub name_of : Change → List ℕ
name_of (Installed id) = id.name
name_of (Updated id) = id.name
name_of (Erased id) = id.name

-- the change of a trove of the list before: the list after has none of its name
pub record IsLost (after : List TroveParts) (t : TroveParts) (change : Change) : Type 0 where
  pub none : IsNameless t.id.name after
  pub change_is : change ≡ Erased t.id

-- the list before has another trove of its name
pub record IsReplaced (before : List TroveParts) (t : TroveParts) : Type 0 where
  pub was : TroveParts
  pub there : Contains before was
  pub same_name : was.id.name ≡ t.id.name
  pub differs : was ≡ t → ⊥

-- the change of a trove of the list after: the list before has none of its name, or another one
abbrev pub IsFresh : List TroveParts → TroveParts → Change → Type 0
IsFresh before t change = (IsNameless t.id.name before × (change ≡ Installed t.id)) ⊎ (IsReplaced before t × (change ≡ Updated t.id))

-- a change of one of the troves
abbrev pub IsChange : List TroveParts → List TroveParts → Change → Type 0
IsChange before after change = ((t : TroveParts) × Contains before t × IsLost after t change) ⊎ ((t : TroveParts) × Contains after t × IsFresh before t change)

abbrev pub by_change : Change → Change → Ordering
by_change one other = slice_cmp nat_cmp (name_of one) (name_of other)

-- just the changes from the one list to the other, in the order of their names
pub record AreChanges (before after : List TroveParts) (changes : List Change) : Type 0 where
  pub rising : IsStrictlySortedBy by_change changes
  pub each : (change : Change) → Contains changes change → IsChange before after change
  pub all : (change : Change) → IsChange before after change → Contains changes change

-- ---- changes by the names of their troves

abbrev pub Noted : Type 0
Noted = BTreeMap (List ℕ) Change

abbrev pub noted : Noted → List ℕ → Option Change
noted changes name = get (slice_cmp nat_cmp) changes name

-- the change stands under the name, and the others where they stood
abbrev pub HasNoted : List ℕ → Change → Noted → Noted → Type 0
HasNoted name change old new = (other : List ℕ) → noted new other ≡ (if same name other then Some change else noted old other)

-- a change of this kind stands under the name, or there is none and all stand where they stood
abbrev pub NotesOne : (Change → Type 0) → List ℕ → Noted → Noted → Type 0
NotesOne IsOne name old new = ((change : Change) × IsOne change × HasNoted name change old new) ⊎ (((change : Change) → IsOne change → ⊥) × ((other : List ℕ) → noted new other ≡ noted old other))

-- the change of one of these troves, of this name
pub record IsOf (Is : TroveParts → Change → Type 0) (troves : List TroveParts) (name : List ℕ) (change : Change) : Type 0 where
  pub trove : TroveParts
  pub among : Contains troves trove
  pub named : trove.id.name ≡ name
  pub change_is : Is trove change

-- the changes of these troves stand under their names, and under other names what stood there
pub record NotesAll (Is : TroveParts → Change → Type 0) (troves : List TroveParts) (old new : Noted) : Type 0 where
  pub all : (name : List ℕ) (change : Change) → IsOf Is troves name change → noted new name ≡ Some change
  pub from : (name : List ℕ) (change : Change) → noted new name ≡ Some change → (noted old name ≡ Some change) ⊎ IsOf Is troves name change
  pub kept : (name : List ℕ) (change : Change) → noted old name ≡ Some change → ((other : Change) → IsOf Is troves name other → ⊥) → noted new name ≡ Some change
