-- The order of troves by their names.
use Rattle.std.specs.Cmp.Lexicographic.{slice_cmp}
use Rattle.std.specs.Ordering.{nat_cmp}
use Rattle.std.specs.declared.cmp.Ordering.{Ordering}
use Rattle.trove_stream.specs.declared.parts.TroveParts.{TroveParts}
use Rattle.std.specs.List.Sorted.{IsStrictlySortedBy}
use Rattle.std.specs.Prelude.{List}

-- by the bytes of the names
abbrev pub by_name_cmp : TroveParts → TroveParts → Ordering
by_name_cmp t u = slice_cmp nat_cmp t.id.name u.id.name

-- each name above the one before it
abbrev pub HasRisingNames : List TroveParts → Type 0
HasRisingNames troves = IsStrictlySortedBy by_name_cmp troves
