-- What a list of troves records at the paths of entries.
use Rattle.std.specs.Prelude.{◌≡◌, List, Option, None, Contains}
use Rattle.std.specs.BTreeMap.{BTreeMap, get}
use Rattle.std.specs.Option.{option_or}
use Rattle.std.specs.Ordering.{nat_cmp}
use Rattle.std.specs.Cmp.Lexicographic.{slice_cmp}
use Rattle.local_db.specs.Installed.{record_at, first_mark, recorded}
use Rattle.local_db.specs.Record.{Entry}
use Rattle.local_db.specs.tree-disk.Tree.{Name}
use Rattle.tree_scan.specs.declared.mark.Mark.{Mark}
use Rattle.local_db.specs.trove-parts.declared.files.FileAt.{FileAt}
use Rattle.local_db.specs.trove-stream.declared.parts.TroveParts.{TroveParts}

-- one of the entries is at the path
pub record IsEntryPath (es : List Entry) (path : Name) : Type 0 where
  pub entry : Entry
  pub among : Contains es entry
  pub at_path : entry.path ≡ path

abbrev pub Marks : Type 0
Marks = BTreeMap Name Mark

-- the fingerprint under a path
abbrev pub mark_at : Marks → Name → Option Mark
mark_at marks path = get (slice_cmp nat_cmp) marks path

-- the fingerprint of the first of the files at the path
abbrev pub file_mark : List FileAt → Name → Option Mark
file_mark files path = first_mark (record_at files path) None

-- at the paths of the entries: what was noted before, else what the files record
abbrev pub HasNoted : List Entry → List FileAt → Marks → Marks → Type 0
HasNoted es files old new = (path : Name) → IsEntryPath es path → mark_at new path ≡ option_or (mark_at old path) (file_mark files path)

-- the same, with what the list records
abbrev pub HasNotedAll : List Entry → List TroveParts → Marks → Marks → Type 0
HasNotedAll es list old new = (path : Name) → IsEntryPath es path → mark_at new path ≡ option_or (mark_at old path) (recorded list path)

-- just what the list records
abbrev pub AreMarks : List Entry → List TroveParts → Marks → Type 0
AreMarks es list marks = (path : Name) → IsEntryPath es path → mark_at marks path ≡ recorded list path
