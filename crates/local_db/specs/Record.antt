-- Rollback records: how a job is taken back.
use Rattle.std.specs.Prelude.{◌≡◌, ◌≢◌, ℕ, ◌≤◌, IsTrue, List, [], ◌∷◌, ◌++◌, map, Option, Some, None, if◌then◌else◌, All, flat_map}
use Rattle.std.specs.Int.{w32, to_be_bytes}
use Rattle.std.specs.List.Sorted.{IsStrictlySortedBy}
use Rattle.std.specs.Ordering.{nat_cmp}
use Rattle.std.specs.Cmp.Lexicographic.{slice_cmp}
use Rattle.std.specs.FinMap.{get}
use Rattle.std.specs.declared.cmp.Ordering.{Ordering}
use Rattle.trove_stream.specs.cny-base.Path.{is_path}
use Rattle.trove_stream.specs.cny-base.StrField.{str}
use Rattle.trove_stream.specs.cny-base.declared.limits.TheConstants.{JOBS_LIMIT}
use Rattle.cny_stream.specs.Item.{FitsItem, item_bytes}
use Rattle.trove_stream.specs.trove-parts.declared.id.TroveId.{TroveId}
use Rattle.trove_stream.specs.trove-parts.Id.{IsTroveId, id_bytes}
use Rattle.trove_stream.specs.trove-parts.Items.{items_bytes}
use Rattle.trove_stream.specs.declared.parts.TroveParts.{TroveParts}
use Rattle.trove_stream.specs.Trove.{IsTrove}
use Rattle.trove_stream.specs.declared.rel.RelParts.{RelParts}
use Rattle.trove_stream.specs.Rel.{IsRel}
use Rattle.trove_stream.specs.Leads.{Leads}
use Rattle.tree_journal.specs.tree-disk.Tree.{Name, same_name}
use Rattle.tree_scan.specs.declared.mark.Mark.{Mark}
use Rattle.tree_scan.specs.declared.mark.Mark.TheVariants.{Nothing}
use Rattle.tree_scan.specs.Marks.{fingerprint}
use Rattle.local_db.specs.MarkBytes.{IsMark, told_bytes}
use Rattle.trove_stream.specs.Installed.{trove_of}
use Rattle.local_db.specs.Installed.{recorded, IsInstalled}
use Rattle.local_db.specs.declared.format.Format.{Format}
use Rattle.local_db.specs.Formats.{record_magic, trove_text, rel_text, CanTell, TroveCanTell, Fits}
use Rattle.local_db.specs.SystemState.{StackItem, IsFree}

-- ---- trove deltas

-- What a record says of one name: a trove of this id came, where none was; this trove was there, where none is now or
-- another one of the same id; or this leads from the trove after the job to the one before it.
pub data Delta : Type 0 where
  came : TroveId → Delta
  was : TroveParts → Delta
  turned : RelParts → Delta

abbrev pub delta_name : Delta → Name
delta_name (came id) = id.name
delta_name (was t) = t.id.name
delta_name (turned rel) = rel.old.name

abbrev pub delta_cmp : Delta → Delta → Ordering
delta_cmp a b = slice_cmp nat_cmp (delta_name a) (delta_name b)

abbrev pub delta_at : List Delta → Name → Option Delta
delta_at [] name = None
delta_at (u ∷ us) name = if same_name name (delta_name u) then Some u else delta_at us name

-- one name, with the trove after the job and the one before it
abbrev pub TakesBackAt : Option Delta → Option TroveParts → Option TroveParts → Type 0
TakesBackAt None after before = before ≡ after
TakesBackAt (Some (came id)) (Some t) None = t.id ≡ id
TakesBackAt (Some (was old)) None (Some b) = b ≡ old
TakesBackAt (Some (was old)) (Some t) (Some b) = (b ≡ old) × (t.id ≡ old.id) × (t ≢ old)
TakesBackAt (Some (turned rel)) (Some t) (Some b) = Leads rel t b
TakesBackAt (Some _) _ _ = ⊥

-- These, one for each name whose trove changed, lead from the list after the job back to the one before it.
pub record TakesBack (us : List Delta) (after before : List TroveParts) : Type 0 where
  pub rising : IsStrictlySortedBy delta_cmp us
  pub each : (name : Name) → TakesBackAt (delta_at us name) (trove_of name after) (trove_of name before)

-- ---- file entries

-- a path with the fingerprints before and after the job
pub record Entry : Type 0 where
  pub path : Name
  pub was : Mark
  pub now : Mark

abbrev pub entry_cmp : Entry → Entry → Ordering
entry_cmp a b = slice_cmp nat_cmp a.path b.path

pub record IsEntry (e : Entry) : Type 0 where
  pub path : IsTrue (is_path e.path)
  pub was : IsMark e.was
  pub now : IsMark e.now

abbrev pub entries_of : StackItem → List Entry
entries_of o = map (λ (p : Name). record { path = p; was = fingerprint (get o.before p); now = fingerprint (get o.after p) }) o.paths

-- ---- the bytes

abbrev pub delta_tag : Delta → ℕ
delta_tag (came id) = 0x64
delta_tag (was t) = 0x65
delta_tag (turned rel) = 0x66

abbrev pub delta_value : Format → Delta → List ℕ
delta_value f (came id) = id_bytes id
delta_value f (was t) = trove_text f t
delta_value f (turned rel) = rel_text f rel

abbrev pub delta_bytes : Format → Delta → List ℕ
delta_bytes f u = item_bytes (delta_tag u) (delta_value f u)

-- the fingerprint before is left to the list before the job, and the one after to the list after it, where that records it
abbrev pub entry_value : (before after : List TroveParts) → Entry → List ℕ
entry_value before after e = str e.path ++ (told_bytes (recorded before e.path) e.was ++ told_bytes (recorded after e.path) e.now)

-- The one spelling of a record: the number, the trove deltas, the file entries, the end.
abbrev pub record_bytes : Format → ℕ → List Delta → (before after : List TroveParts) → List Entry → List ℕ
record_bytes f number us before after entries = record_magic f ++ (item_bytes 0x60 (to_be_bytes w32 number)
    ++ (flat_map (delta_bytes f) us ++ (items_bytes (entry_value before after) 0x67 entries ++ item_bytes 0x6F [])))

abbrev pub IsDelta : Format → Delta → Type 0
IsDelta f (came id) = IsTroveId id
IsDelta f (was t) = IsTrove t × TroveCanTell f t
IsDelta f (turned rel) = IsRel rel × CanTell f rel.files_set

-- The bytes are the record of this number that takes the list after the job back to the one before it, with these entries.
pub record IsRecord (f : Format) (number : ℕ) (before after : List TroveParts) (entries : List Entry) (bytes : List ℕ) : Type 0 where
  pub deltas : List Delta
  pub number_fits : (1 ≤ number) × (number ≤ JOBS_LIMIT)
  pub deltas_are : All (IsDelta f) deltas
  pub back : TakesBack deltas after before
  pub entries_are : All IsEntry entries
  pub deltas_fit : All (λ u. FitsItem (delta_value f u)) deltas
  pub entries_fit : All (λ e. FitsItem (entry_value before after e)) entries
  pub rising : IsStrictlySortedBy entry_cmp entries
  pub text : bytes ≡ record_bytes f number deltas before after entries

-- what else holds of the list and the entries that a record gives back
pub record PassesChecks (f : Format) (before : List TroveParts) (entries : List Entry) : Type 0 where
  pub list : IsInstalled before
  pub fits : Fits f before
  pub free : All (λ (e : Entry). IsFree e.path) entries
  pub something : All (λ (e : Entry). (e.was ≡ Nothing) × (e.now ≡ Nothing) → ⊥) entries
