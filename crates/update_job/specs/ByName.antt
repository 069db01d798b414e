-- Troves in a map by their names.
use Rattle.std.specs.Prelude.{◌≡◌, ◌⊎◌, ℕ, Bool, if◌then◌else◌, List, Option, Some, Contains, slice_get}
use Rattle.std.specs.BTreeMap.{BTreeMap, get, is_at}
use Rattle.std.specs.Cmp.Lexicographic.{slice_cmp}
use Rattle.std.specs.Ordering.{nat_cmp}
use Rattle.change_set.specs.cny-base.declared.refusal.Fault.{Fault}
use Rattle.change_set.specs.cny-base.declared.refusal.Fault.TheVariants.{Refused, Memory}
use Rattle.change_set.specs.cny-base.declared.refusal.Refusal.TheVariants as refusal
use Rattle.change_set.specs.trove-parts.Id.{id_text_of}
use Rattle.change_set.specs.trove-stream.declared.parts.TroveParts.{TroveParts}

-- by name: a trove
abbrev pub ByName : Type 0
ByName = BTreeMap (List ℕ) TroveParts

-- the trove under a name
abbrev pub found : ByName → List ℕ → Option TroveParts
found troves name = get (slice_cmp nat_cmp) troves name

-- whether two names are one
abbrev pub same : List ℕ → List ℕ → Bool
same x y = is_at (slice_cmp nat_cmp x) y

-- each trove stands under its name
abbrev pub AreNamed : ByName → Type 0
AreNamed troves = (name : List ℕ) (t : TroveParts) → found troves name ≡ Some t → t.id.name ≡ name

-- the trove stands under its name, and the others where they stood
abbrev pub HasPut : TroveParts → ByName → ByName → Type 0
HasPut t old new = (name : List ℕ) → found new name ≡ (if same t.id.name name then Some t else found old name)

-- the same, with the trove at a place of the list
abbrev pub HasPutAt : List TroveParts → ℕ → ByName → ByName → Type 0
HasPutAt list place old new = (t : TroveParts) → slice_get list place ≡ Some t → HasPut t old new

-- the trove at one of these places, with this name
pub record IsAtOne (list : List TroveParts) (places : List ℕ) (name : List ℕ) (t : TroveParts) : Type 0 where
  pub place : ℕ
  pub among : Contains places place
  pub there : slice_get list place ≡ Some t
  pub named : t.id.name ≡ name

-- the troves at these places stand under their names, and under other names what stood there
pub record HasPutAll (list : List TroveParts) (places : List ℕ) (old new : ByName) : Type 0 where
  pub put : (name : List ℕ) (t : TroveParts) → IsAtOne list places name t → found new name ≡ Some t
  pub from : (name : List ℕ) (t : TroveParts) → found new name ≡ Some t → (found old name ≡ Some t) ⊎ IsAtOne list places name t
  pub kept : (name : List ℕ) (t : TroveParts) → found old name ≡ Some t → ((u : TroveParts) → IsAtOne list places name u → ⊥) → found new name ≡ Some t

-- just these troves, each under its name
pub record AreByName (list : List TroveParts) (troves : ByName) : Type 0 where
  pub from : (name : List ℕ) (t : TroveParts) → found troves name ≡ Some t → Contains list t × (t.id.name ≡ name)
  pub all : (t : TroveParts) → Contains list t → found troves t.id.name ≡ Some t

-- the trove stands under its name: it was put there, where none was, or it was there
pub record HasAdmitted (old : ByName) (t : TroveParts) (new : ByName) : Type 0 where
  pub put : HasPut t old new
  pub was : (u : TroveParts) → found old t.id.name ≡ Some u → u ≡ t

-- another trove stands under its name; or memory is wanting
abbrev pub IsNotAdmitted : ByName → TroveParts → Fault → Type 0
IsNotAdmitted old t (Refused refused) = (u : TroveParts) × (found old t.id.name ≡ Some u) × (u ≡ t → ⊥) × (refused ≡ refusal.Exists (id_text_of t.id))
IsNotAdmitted old t Memory = Unit {0}
