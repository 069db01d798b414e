-- Lists of installed troves, by their names.
use Rattle.std.specs.Prelude.{◌≡◌, ℕ, Bool, List, Option, Some, slice_get, Contains}
use Rattle.std.specs.Cmp.Lexicographic.{slice_cmp}
use Rattle.std.specs.List.{find}
use Rattle.std.specs.List.Sorted.{IsStrictlySortedBy}
use Rattle.std.specs.Ordering.{nat_cmp}
use Rattle.std.specs.Str.{bytes_eq}
use Rattle.std.specs.declared.cmp.Ordering.{Ordering}
use Rattle.trove_stream.specs.declared.parts.TroveParts.{TroveParts}

-- by the bytes of the names
abbrev pub by_name : TroveParts → TroveParts → Ordering
by_name t u = slice_cmp nat_cmp t.id.name u.id.name

-- each name above the one before it
abbrev pub IsRising : List TroveParts → Type 0
IsRising list = IsStrictlySortedBy by_name list

abbrev pub has_name : List ℕ → TroveParts → Bool
has_name name t = bytes_eq t.id.name name

-- the first trove of this name, if there is one
abbrev pub trove_of : List ℕ → List TroveParts → Option TroveParts
trove_of name list = find (has_name name) list

-- the trove at this place has the name
pub record IsPlaceOf (name : List ℕ) (list : List TroveParts) (place : ℕ) : Type 0 where
  pub trove : TroveParts
  pub there : slice_get list place ≡ Some trove
  pub named : trove.id.name ≡ name

-- no trove of the list has the name
abbrev pub IsNameless : List ℕ → List TroveParts → Type 0
IsNameless name list = (t : TroveParts) → Contains list t → t.id.name ≡ name → ⊥
