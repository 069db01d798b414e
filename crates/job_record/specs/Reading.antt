-- The items of a record, read from the front.
use Rattle.std.specs.Prelude.{◌≡◌, ℕ, ◌<◌, ◌≤◌, ◌^◌, List, ◌++◌, length, drop, All}
use Rattle.std.specs.Int.{w16, w32, to_be_bytes}
use Rattle.cny_stream.specs.Item.{item_bytes}
use Rattle.local_db.specs.trove-parts.Items.{items_bytes}
use Rattle.local_db.specs.declared.format.Format.{Format}
use Rattle.local_db.specs.Formats.{record_magic}
use Rattle.local_db.specs.Record as state
use Rattle.local_db.specs.declared.record.Delta.{Delta}
use Rattle.local_db.specs.declared.record.Told.{Told}
use Rattle.local_db.specs.declared.record.ToldEntry.{ToldEntry}
use Rattle.local_db.specs.declared.record.Record.{Record}
use Rattle.local_db.specs.RecordText.{delta_of, IsDelta, FitsDelta, delta_value, delta_bytes, deltas_text, told_text, IsTold, entry_text, entries_text, IsToldEntry}

-- ---- fingerprints

-- the bytes begin with what is told, which takes so many of them
pub record IsToldFront (bytes : List ℕ) (told : Told) (size : ℕ) : Type 0 where
  pub within : size ≤ length bytes
  pub told_is : IsTold told
  pub spelled : bytes ≡ told_text told ++ drop size bytes

-- the bytes begin with nothing that is told
abbrev pub IsNoToldFront : List ℕ → Type 0
IsNoToldFront bytes = (told : Told) (rest : List ℕ) → IsTold told → bytes ≡ told_text told ++ rest → ⊥

-- the bytes are a mode, a size and the name of a content, and what stands behind these
pub record HasFileFields (bytes : List ℕ) (mode size : ℕ) (name : List ℕ) : Type 0 where
  pub mode_fits : mode ≤ 4095
  pub size_fits : size < 2 ^ 32
  pub name_long : length name ≡ 20
  pub long : 26 ≤ length bytes
  pub spelled : bytes ≡ to_be_bytes w16 mode ++ (to_be_bytes w32 size ++ (name ++ drop 26 bytes))

-- ---- trove deltas

-- an item with this tag and value is that of the delta
pub record IsDeltaText (f : Format) (tag : ℕ) (value : List ℕ) (u : Delta) : Type 0 where
  pub delta_is : IsDelta f u
  pub tagged : tag ≡ state.delta_tag (delta_of u)
  pub text : value ≡ delta_value f u

-- the item of this delta begins at `at` and ends at `to`
pub record IsDeltaAt (f : Format) (bytes : List ℕ) (at : ℕ) (u : Delta) (to : ℕ) : Type 0 where
  pub goes_on : at < to
  pub within : to ≤ length bytes
  pub delta_is : IsDelta f u
  pub fits : FitsDelta f u
  pub spelled : drop at bytes ≡ delta_bytes f u ++ drop to bytes

-- no delta's item begins at `at`
abbrev pub IsNoDeltaAt : Format → List ℕ → ℕ → Type 0
IsNoDeltaAt f bytes at = (u : Delta) (rest : List ℕ) → IsDelta f u → FitsDelta f u → drop at bytes ≡ delta_bytes f u ++ rest → ⊥

-- the bytes are the magic, the number, the items of these deltas, and what stands from `at` on
pub record AreDeltasTo (f : Format) (bytes : List ℕ) (number : ℕ) (deltas : List Delta) (at : ℕ) : Type 0 where
  pub within : at ≤ length bytes
  pub deltas_are : All (IsDelta f) deltas
  pub deltas_fit : All (FitsDelta f) deltas
  pub spelled : bytes ≡ record_magic f ++ (item_bytes 0x60 (to_be_bytes w32 number) ++ (deltas_text f deltas ++ drop at bytes))

-- ---- file entries

-- the value of the item of this entry
pub record IsEntryText (value : List ℕ) (e : ToldEntry) : Type 0 where
  pub entry_is : IsToldEntry e
  pub text : value ≡ entry_text e

-- the item of this entry begins at `at` and ends at `to`
pub record IsEntryAt (bytes : List ℕ) (at : ℕ) (e : ToldEntry) (to : ℕ) : Type 0 where
  pub goes_on : at < to
  pub within : to ≤ length bytes
  pub entry_is : IsToldEntry e
  pub spelled : drop at bytes ≡ item_bytes 0x67 (entry_text e) ++ drop to bytes

-- no entry's item begins at `at`
abbrev pub IsNoEntryAt : List ℕ → ℕ → Type 0
IsNoEntryAt bytes at = (e : ToldEntry) (rest : List ℕ) → IsToldEntry e → drop at bytes ≡ item_bytes 0x67 (entry_text e) ++ rest → ⊥

-- from `from` on the bytes are the items of these entries, and what stands from `at` on
pub record AreEntriesTo (bytes : List ℕ) (from : ℕ) (entries : List ToldEntry) (at : ℕ) : Type 0 where
  pub within : at ≤ length bytes
  pub entries_are : All IsToldEntry entries
  pub spelled : drop from bytes ≡ items_bytes entry_text 0x67 entries ++ drop at bytes

-- from `at` on the bytes are those of no entries and the end
abbrev pub IsNoEntriesText : List ℕ → ℕ → Type 0
IsNoEntriesText bytes at = (es : List ToldEntry) → All IsToldEntry es → drop at bytes ≡ entries_text es → ⊥

-- ---- records

-- The bytes are in the grammar of a record. Its deltas and entries may be in any order.
pub record IsUnordered (f : Format) (r : Record) (bytes : List ℕ) : Type 0 where
  pub number_fits : r.number < 2 ^ 32
  pub deltas_are : All (IsDelta f) r.deltas
  pub deltas_fit : All (FitsDelta f) r.deltas
  pub entries_are : All IsToldEntry r.entries
  pub text : bytes ≡ record_magic f ++ (item_bytes 0x60 (to_be_bytes w32 r.number) ++ (deltas_text f r.deltas ++ entries_text r.entries))
