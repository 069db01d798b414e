-- What the ordered maps of a list that is taken back hold.
use Rattle.std.specs.Prelude.{◌≡◌, ◌⊎◌, ℕ, ◌+◌, Bool, true, false, ◌&&◌, List, [], ◌∷◌, ◌++◌, map, length, Option, Some, None, is_some, IsSome, All, if◌then◌else◌}
use Rattle.std.specs.BTreeMap.{BTreeMap, IsOrdered, get}
use Rattle.std.specs.Cmp.Lexicographic.{slice_cmp}
use Rattle.std.specs.List.{sum_by}
use Rattle.std.specs.Map.{values_of}
use Rattle.std.specs.Ordering.{nat_cmp, is_gt}
use Rattle.local_db.specs.cny-stream.declared.record.FileRec.{FileRec}
use Rattle.local_db.specs.cny-stream.Record as rec
use Rattle.local_db.specs.trove-stream.declared.parts.TroveParts.{TroveParts}
use Rattle.local_db.specs.tree-disk.Tree.{Name, same_name}
use Rattle.tree_scan.specs.declared.mark.Mark.{Mark}
use Rattle.tree_scan.specs.Marks as marks
use Rattle.local_db.specs.trove-stream.Installed.{trove_of}
use Rattle.local_db.specs.Installed.{record_at, first_mark, SharesDirsAlone, IsInstalled}
use Rattle.local_db.specs.trove-stream.Forbidden.{first_forbidden}
use Rattle.local_db.specs.trove-stream.Trove.{IsTrove}
use Rattle.local_db.specs.declared.format.Format.{Format}
use Rattle.local_db.specs.Formats.{Fits, trove_text, TroveCanTell}
use Rattle.local_db.specs.Record.{delta_at, TakesBackAt}
use Rattle.local_db.specs.trove-parts.declared.id.TroveId.{TroveId}
use Rattle.local_db.specs.declared.record.Delta.{Delta}
use Rattle.local_db.specs.RecordText.{delta_of, name_of}
use Rattle.past_jobs.specs.declared.past_marks.Recorder.{Recorder}
use Rattle.past_jobs.specs.declared.past_marks.Recorders.{Recorders}
pub use Rattle.change_rel.specs.trove-stream.Either.{or_else}

-- ---- fingerprints

-- by the paths
abbrev pub Marks : Type 0
Marks = BTreeMap Name Recorders

abbrev pub recorders_at : Marks → Name → Option Recorders
recorders_at m path = get (slice_cmp nat_cmp) m path

-- the fingerprint of the trove of a name: that of the one, if it has the name, and else what the others have
abbrev pub mark_beside : Option Recorder → Option Mark → Name → Option Mark
mark_beside None other name = other
mark_beside (Some one) other name = if same_name one.name name then Some one.mark else other

abbrev pub mark_in : Option Recorders → Name → Option Mark
mark_in None name = None
mark_in (Some recorders) name = mark_beside recorders.one (get (slice_cmp nat_cmp) recorders.others name) name

-- the fingerprint of this trove at this path
abbrev pub mark_at : Marks → Name → Name → Option Mark
mark_at m path name = mark_in (recorders_at m path) name

-- of the fingerprints by the names of troves, this is that of the first by name
pub record IsFirstOf (marks : Name → Option Mark) (mark : Mark) : Type 0 where
  pub name : Name
  pub there : marks name ≡ Some mark
  pub least : (other : Name) → IsSome (marks other) → is_gt (slice_cmp nat_cmp name other) ≡ false

-- of the troves at the path, this is the fingerprint of the first by name
abbrev pub IsFirst : Marks → Name → Mark → Type 0
IsFirst m path mark = IsFirstOf (mark_at m path) mark

-- what a trove records at a path
abbrev pub mark_of : Option TroveParts → Name → Option Mark
mark_of None path = None
mark_of (Some t) path = first_mark (record_at t.files path) None

-- whether a file may stand where a list records this: nothing, or a directory beside a directory
abbrev pub may_stand : Option Mark → FileRec → Bool
may_stand None file = true
may_stand (Some mark) file = rec.is_dir file && marks.is_dir mark

-- ---- troves

abbrev pub Troves : Type 0
Troves = BTreeMap Name TroveParts

abbrev pub troves_of : Troves → List TroveParts
troves_of m = values_of m.entries

abbrev pub trove_at : Troves → Name → Option TroveParts
trove_at m name = get (slice_cmp nat_cmp) m name

-- how many bytes the item of a trove has in a database
abbrev pub item_len : Format → TroveParts → ℕ
item_len f t = 5 + length (trove_text f t)

-- how many bytes a database has
abbrev pub list_len : Format → List TroveParts → ℕ
list_len f list = 26 + sum_by (item_len f) list

abbrev pub HasOwnName : Name × TroveParts → Type 0
HasOwnName e = e.0 ≡ e.1.id.name

-- The maps and the length are those of one list: its troves by their names, what they record, the length of its database.
pub record IsIndexed (f : Format) (troves : Troves) (m : Marks) (len : ℕ) : Type 0 where
  pub ordered : IsOrdered (slice_cmp nat_cmp) troves
  pub named : All HasOwnName troves.entries
  pub marked : (path name : Name) → mark_at m path name ≡ mark_of (trove_at troves name) path
  pub counted : len ≡ list_len f (troves_of troves)

-- And the list may be installed, within the limit of a database.
pub record IsHeld (f : Format) (troves : Troves) (m : Marks) (len : ℕ) : Type 0 where
  pub indexed : IsIndexed f troves m len
  pub installed : IsInstalled (troves_of troves)
  pub fits : Fits f (troves_of troves)

-- A list that may be installed, which can be told in the format.
pub record IsSound (f : Format) (list : List TroveParts) : Type 0 where
  pub installed : IsInstalled list
  pub told : All (TroveCanTell f) list

-- The list may have this trove beside its own.
pub record MayJoin (f : Format) (list : List TroveParts) (t : TroveParts) : Type 0 where
  pub trove : IsTrove t
  pub allowed : first_forbidden t.files ≡ None
  pub told : TroveCanTell f t
  pub shares : All (SharesDirsAlone t) list

-- ---- deltas

-- one of the deltas is of this name
abbrev pub has_delta : List Delta → Name → Bool
has_delta us name = is_some (delta_at (map delta_of us) name)

-- what the delta takes back, of the list after the job
abbrev pub TurnsTo : List TroveParts → Delta → Option TroveParts → Type 0
TurnsTo after u before = TakesBackAt (Some (delta_of u)) (trove_of (name_of u) after) before

-- the troves that the deltas make of the list after the job, in their order
abbrev pub AreMade : List TroveParts → List Delta → List TroveParts → Type 0
AreMade after [] made = made ≡ []
AreMade after (u ∷ us) made = (TurnsTo after u None × AreMade after us made)
    ⊎ ((b : TroveParts) × (rest : List TroveParts) × (made ≡ b ∷ rest) × TurnsTo after u (Some b) × AreMade after us rest)

abbrev pub id_of : Option TroveParts → List TroveId
id_of None = []
id_of (Some t) = t.id ∷ []

-- the ids of the troves of the list which the deltas' names have, in their order
abbrev pub ids_at : List TroveParts → List Delta → List TroveId
ids_at list [] = []
ids_at list (u ∷ us) = id_of (trove_of (name_of u) list) ++ ids_at list us
