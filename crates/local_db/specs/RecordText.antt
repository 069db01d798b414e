-- The bytes of a rollback record. Which fingerprints the lists of troves record isn't known here: a sign stands for those.
use Rattle.std.specs.Prelude.{◌≡◌, ℕ, ◌<◌, ◌^◌, IsTrue, List, [], ◌∷◌, ◌++◌, All}
use Rattle.std.specs.Int.{w32, to_be_bytes}
use Rattle.std.specs.List.{flat_map}
use Rattle.std.specs.List.Sorted.{IsStrictlySortedBy}
use Rattle.std.specs.Ordering.{nat_cmp}
use Rattle.std.specs.Cmp.Lexicographic.{slice_cmp}
use Rattle.std.specs.declared.cmp.Ordering.{Ordering}
use Rattle.trove_stream.specs.cny-base.Path.{is_path}
use Rattle.trove_stream.specs.cny-base.StrField.{str}
use Rattle.cny_stream.specs.Item.{FitsItem, item_bytes}
use Rattle.trove_stream.specs.trove-parts.Items.{items_bytes}
use Rattle.local_db.specs.declared.format.Format.{Format}
use Rattle.local_db.specs.Formats.{record_magic}
use Rattle.local_db.specs.MarkBytes.{IsMark, mark_bytes}
use Rattle.local_db.specs.Record as state
use Rattle.local_db.specs.declared.record.Delta.{Delta}
use Rattle.local_db.specs.declared.record.Delta.TheVariants.{Came, Was, Turned}
use Rattle.local_db.specs.declared.record.Told.{Told}
use Rattle.local_db.specs.declared.record.Told.TheVariants.{Listed, Own}
use Rattle.local_db.specs.declared.record.ToldEntry.{ToldEntry}
use Rattle.local_db.specs.declared.record.Record.{Record}

-- ---- trove deltas

-- the delta, as what is said of stored systems has it
abbrev pub delta_of : Delta → state.Delta
delta_of (Came id) = state.came id
delta_of (Was trove) = state.was trove
delta_of (Turned rel) = state.turned rel

abbrev pub IsDelta : Format → Delta → Type 0
IsDelta f u = state.IsDelta f (delta_of u)

abbrev pub delta_value : Format → Delta → List ℕ
delta_value f u = state.delta_value f (delta_of u)

-- the length of its value fits in four bytes
abbrev pub FitsDelta : Format → Delta → Type 0
FitsDelta f u = FitsItem (delta_value f u)

abbrev pub delta_bytes : Format → Delta → List ℕ
delta_bytes f u = state.delta_bytes f (delta_of u)

abbrev pub tag_of : Delta → ℕ
tag_of u = state.delta_tag (delta_of u)

abbrev pub name_of : Delta → List ℕ
name_of u = state.delta_name (delta_of u)

-- by the names
abbrev pub by_name : Delta → Delta → Ordering
by_name u v = state.delta_cmp (delta_of u) (delta_of v)

-- ---- file entries

-- `=`, or the fingerprint's own bytes
abbrev pub told_text : Told → List ℕ
told_text Listed = 61 ∷ []
told_text (Own mark) = mark_bytes mark

abbrev pub IsTold : Told → Type 0
IsTold Listed = Unit {0}
IsTold (Own mark) = IsMark mark

abbrev pub entry_text : ToldEntry → List ℕ
entry_text e = str e.path ++ (told_text e.before ++ told_text e.after)

pub record IsToldEntry (e : ToldEntry) : Type 0 where
  pub path_is : IsTrue (is_path e.path)
  pub before_is : IsTold e.before
  pub after_is : IsTold e.after

abbrev pub by_path : ToldEntry → ToldEntry → Ordering
by_path e d = slice_cmp nat_cmp e.path d.path

-- ---- records

abbrev pub deltas_text : Format → List Delta → List ℕ
deltas_text f us = flat_map (delta_bytes f) us

-- the items of entries, and the end item
abbrev pub entries_text : List ToldEntry → List ℕ
entries_text es = items_bytes entry_text 0x67 es ++ item_bytes 0x6F []

-- The one spelling of a record: the number, the trove deltas, the file entries, the end.
abbrev pub record_text : Format → Record → List ℕ
record_text f r = record_magic f ++ (item_bytes 0x60 (to_be_bytes w32 r.number) ++ (deltas_text f r.deltas ++ entries_text r.entries))

-- The bytes are those of this record in the format.
pub record IsRecordText (f : Format) (r : Record) (bytes : List ℕ) : Type 0 where
  pub number_fits : r.number < 2 ^ 32
  pub deltas_are : All (IsDelta f) r.deltas
  pub deltas_fit : All (FitsDelta f) r.deltas
  pub deltas_rise : IsStrictlySortedBy by_name r.deltas
  pub entries_are : All IsToldEntry r.entries
  pub entries_rise : IsStrictlySortedBy by_path r.entries
  pub text : bytes ≡ record_text f r
