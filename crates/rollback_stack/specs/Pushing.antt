-- What is written before the write set of a job, and the write of its record.
use Rattle.std.specs.Prelude.{◌≡◌, ℕ, Bool, List, [], ◌∷◌}
use Rattle.job_targets.specs.cny-base.declared.stop.Stop.{Stop}
use Rattle.job_targets.specs.cny-base.declared.stop.Stop.TheVariants as stop
use Rattle.job_targets.specs.journal-log.declared.put.Put.{Put}
use Rattle.job_targets.specs.trove-stream.declared.parts.TroveParts.{TroveParts}
use Rattle.job_targets.specs.tree-disk.Tree.{Name, Tree}
use Rattle.local_db.specs.Record.{IsRecord}
use Rattle.local_db.specs.Steps.{record_put}
use Rattle.local_db.specs.declared.format.Format.TheVariants.{Two}
use Rattle.local_db.specs.declared.db.Db.{Db}
use Rattle.job_targets.specs.declared.entry.Entry.{Entry}
use Rattle.rollback_stack.specs.Entries.{entries_of}
use Rattle.rollback_stack.specs.Saving.{dropped_below, is_saving_name, IsSavedJob, IsUntoldCollision}

-- the names at which it is written before the write set of the job whose database this is
abbrev pub is_written : Db → Name → Bool
is_written db = is_saving_name db.newest (dropped_below db.oldest)

-- the one write of some record
pub record IsRecordWrite (puts : List Put) : Type 0 where
  pub number : ℕ
  pub mode : ℕ
  pub bytes : List ℕ
  pub puts_are : puts ≡ record_put number mode bytes ∷ []

-- The one write is that of the record in format 2 of the newest job of the database, which leads from the list before it to that of
-- the database. The tree is ready for it: it has the old contents that the record refers to, and nothing stands at the record's name.
pub record IsPushed (x : Tree) (before : List TroveParts) (es : List Entry) (db : Db) (puts : List Put) : Type 0 where
  pub mode : ℕ
  pub bytes : List ℕ
  pub text : IsRecord Two db.newest before db.installed (entries_of es) bytes
  pub puts_are : puts ≡ record_put db.newest mode bytes ∷ []
  pub ready : IsSavedJob db.newest (dropped_below db.oldest) es x

-- Why the record isn't pushed: the disk failed, or no memory was left; or, where the disk tells nothing, a content that is saved
-- collides with a file in a directory that was just made.
abbrev pub IsPushStop : Bool → Type 0 → Stop → Type 0
IsPushStop told rose stop.Failed = rose
IsPushStop told rose stop.Memory = Unit {0}
IsPushStop told rose (stop.Refused why) = IsUntoldCollision told why
IsPushStop told rose (stop.Damaged path) = ⊥
IsPushStop told rose stop.FarFailed = ⊥
IsPushStop told rose (stop.FarDamaged path) = ⊥
