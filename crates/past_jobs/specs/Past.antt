-- The installed list before each job, and what a job changed of it.
use Rattle.std.specs.Prelude.{◌≡◌, ◌≢◌, List, map, Some, All, Contains}
use Rattle.std.specs.List.Sorted.{IsStrictlySortedBy}
use Rattle.std.specs.Ordering.{nat_cmp}
use Rattle.std.specs.Cmp.Lexicographic.{slice_cmp}
use Rattle.std.specs.declared.cmp.Ordering.{Ordering}
use Rattle.local_db.specs.trove-stream.Installed.{trove_of}
use Rattle.local_db.specs.trove-parts.declared.id.TroveId.{TroveId}
use Rattle.local_db.specs.trove-stream.declared.parts.TroveParts.{TroveParts}
use Rattle.local_db.specs.tree-disk.Tree.{Name}
use Rattle.local_db.specs.Installed.{IsInstalled}
use Rattle.local_db.specs.Record.{TakesBack}
use Rattle.local_db.specs.declared.format.Format.{Format}
use Rattle.local_db.specs.Formats.{Fits}
use Rattle.local_db.specs.declared.record.Delta.{Delta}
use Rattle.local_db.specs.RecordText.{delta_of}

-- a list of installed troves, and the format in which it is to be told
pub record Past : Type 0 where
  pub format : Format
  pub troves : List TroveParts

-- the trove, of a list that has one of the name, isn't the same in the other
pub record IsChanged (name : Name) (list other : List TroveParts) : Type 0 where
  pub differs : trove_of name list ≢ trove_of name other

abbrev pub by_name : TroveId → TroveId → Ordering
by_name a b = slice_cmp nat_cmp a.name b.name

-- the ids, by their names, of the troves of the list that the other list doesn't have so
pub record AreChangedIds (list other : List TroveParts) (ids : List TroveId) : Type 0 where
  pub rising : IsStrictlySortedBy by_name ids
  pub theirs : All (λ (id : TroveId). (t : TroveParts) × (trove_of id.name list ≡ Some t) × (t.id ≡ id)) ids
  pub all : (t : TroveParts) → Contains list t → IsChanged t.id.name list other → Contains ids t.id
  pub changed : All (λ (id : TroveId). IsChanged id.name list other) ids

-- The list before a job, by the deltas of its record and the list after it: one that may be installed, within the limit of a
-- database of the format.
pub record IsPast (f : Format) (us : List Delta) (after before : List TroveParts) : Type 0 where
  pub back : TakesBack (map delta_of us) after before
  pub list : IsInstalled before
  pub fits : Fits f before
