-- What the records of a root say of its jobs.
use Rattle.std.specs.Prelude.{◌≡◌, ℕ, zero, suc, ◌-◌, Bool, List, [], ◌∷◌, length}
use Rattle.job_targets.specs.cny-base.declared.stop.Stop.{Stop}
use Rattle.past_jobs.specs.Past.{AreChangedIds}
use Rattle.job_targets.specs.trove-stream.declared.parts.TroveParts.{TroveParts}
use Rattle.job_targets.specs.tree-disk.Tree.{Tree}
use Rattle.local_db.specs.declared.format.Format.TheVariants.{Two}
use Rattle.local_db.specs.Record as state
use Rattle.rollback_stack.specs.declared.undo.NotedJob.{NotedJob}
use Rattle.rollback_stack.specs.JobReading.{HoldsRecord, IsDamagedRecord, IsReadStop}

-- what is noted of a job
pub record IsNote (after before : List TroveParts) (number : ℕ) (es : List state.Entry) (note : NotedJob) : Type 0 where
  pub number_is : note.number ≡ number
  pub before_is : AreChangedIds before after note.before
  pub after_is : AreChangedIds after before note.after
  pub paths_are : note.paths ≡ length es

-- the notes of so many jobs, from this number down, each record read against the list after it
abbrev pub AreNotes : Tree → ℕ → ℕ → List TroveParts → List NotedJob → Type 0
AreNotes x zero number after [] = Unit {0}
AreNotes x (suc count) number after (note ∷ notes) =
    (before : List TroveParts) × (es : List state.Entry) × HoldsRecord Two x number after before es × IsNote after before number es note
    × AreNotes x count (number - 1) before notes
AreNotes x _ number after _ = ⊥

-- Why the jobs aren't told: `count` of them from this number down.
abbrev pub IsAllStop : Bool → Tree → ℕ → ℕ → List TroveParts → Type 0 → Stop → Type 0
IsAllStop told x count number after rose e = IsReadStop told (IsDamagedRecord Two x count number after) rose e
