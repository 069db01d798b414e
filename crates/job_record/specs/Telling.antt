-- Entries as a record tells them, by what the lists record at their paths.
use Rattle.local_db.specs.declared.record.ToldEntry.{ToldEntry}
use Rattle.job_record.specs.Lists.{told_by}
use Rattle.local_db.specs.Record.{Entry}
use Rattle.job_record.specs.Recorded.{Marks, mark_at}

abbrev pub told_with : Marks → Marks → Entry → ToldEntry
told_with before after e = record {
  path = e.path;
  before = told_by (mark_at before e.path) e.was;
  after = told_by (mark_at after e.path) e.now;
}
