-- Entries of a record that were read by the list after the job alone.
use Rattle.local_db.specs.trove-stream.declared.parts.TroveParts.{TroveParts}
use Rattle.local_db.specs.Installed.{recorded}
use Rattle.local_db.specs.Record as state
use Rattle.local_db.specs.declared.record.ToldEntry.{ToldEntry}
use Rattle.job_record.specs.Lists.{told_by}
use Rattle.rollback_stack.specs.declared.job_marks.HalfRead.{HalfRead}
use Rattle.std.specs.Prelude.{List}

-- the entry as the record tells it, by the list after the job
abbrev pub half_told : List TroveParts → HalfRead → ToldEntry
half_told after half = record { path = half.path; before = half.before; after = told_by (recorded after half.path) half.after }

-- what is read so of an entry, by the list before the job
abbrev pub half_of : List TroveParts → state.Entry → HalfRead
half_of before e = record { path = e.path; before = told_by (recorded before e.path) e.was; after = e.now }
