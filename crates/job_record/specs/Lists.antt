-- What a record says by the lists of troves before and after its job.
use Rattle.std.specs.Prelude.{◌≡◌, ℕ, ◌≤◌, if◌then◌else◌, List, map, Option, All}
use Rattle.local_db.specs.trove-stream.declared.parts.TroveParts.{TroveParts}
use Rattle.tree_scan.specs.declared.mark.Mark.{Mark}
use Rattle.local_db.specs.Installed.{recorded}
use Rattle.local_db.specs.MarkBytes.{tells}
use Rattle.local_db.specs.Record as state
use Rattle.local_db.specs.declared.record.Told.{Told}
use Rattle.local_db.specs.declared.record.Told.TheVariants.{Listed, Own}
use Rattle.local_db.specs.declared.record.ToldEntry.{ToldEntry}
use Rattle.local_db.specs.declared.record.Record.{Record}
use Rattle.local_db.specs.RecordText.{delta_of}

-- a fingerprint is left to the list exactly where the list records it
abbrev pub told_by : Option Mark → Mark → Told
told_by of_list mark = if tells of_list mark then Listed else Own mark

-- the entry as a record tells it
abbrev pub told_entry : (before after : List TroveParts) → state.Entry → ToldEntry
told_entry before after e = record {
  path = e.path;
  before = told_by (recorded before e.path) e.was;
  after = told_by (recorded after e.path) e.now;
}

-- The record is that of the job of this number, between these lists, with these entries.
pub record IsReadBy (number : ℕ) (before after : List TroveParts) (es : List state.Entry) (r : Record) : Type 0 where
  pub number_is : r.number ≡ number
  pub positive : 1 ≤ number
  pub back : state.TakesBack (map delta_of r.deltas) after before
  pub entries_are : All state.IsEntry es
  pub told : r.entries ≡ map (told_entry before after) es
