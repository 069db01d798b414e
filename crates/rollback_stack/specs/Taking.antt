-- Jobs that are read and taken back one after the other, from the newest down.
use Rattle.std.specs.Prelude.{◌≡◌, ◌≢◌, ◌⊎◌, ℕ, ◌+◌, ◌-◌, ◌<◌, ◌≤◌, Bool, IsTrue, List, [], ◌∷◌, ◌++◌, length}
use Rattle.job_targets.specs.cny-base.declared.refusal.Refusal.{Refusal}
use Rattle.job_targets.specs.cny-base.declared.refusal.Refusal.TheVariants.{StackEmpty, NoJob}
use Rattle.job_targets.specs.cny-base.declared.stop.Stop.{Stop}
use Rattle.job_targets.specs.cny-base.declared.stop.Stop.TheVariants as stop
use Rattle.job_targets.specs.trove-stream.declared.parts.TroveParts.{TroveParts}
use Rattle.job_targets.specs.tree-disk.Tree.{Tree}
use Rattle.local_db.specs.declared.format.Format.TheVariants.{Two}
use Rattle.local_db.specs.Record as state
use Rattle.local_db.specs.declared.db.Db.{Db}
use Rattle.rollback_stack.specs.JobReading.{HoldsRecord, HoldsRecords, IsDamagedJob}
use Rattle.past_jobs.specs.Marks.{IsUndoRefusal, marks_of}
use Rattle.past_jobs.specs.Jobs.{AreFound, undone_all}
use Rattle.past_jobs.specs.Outcome.{AreUndone, CanUndoNext, IsUndoKind}
use Rattle.past_jobs.specs.Seen.{FoundMarks}

-- there is no job, or none of this number
abbrev pub IsNoJob : Db → ℕ → Refusal → Type 0
IsNoJob db number StackEmpty = db.newest ≡ 0
IsNoJob db number (NoJob n) = (n ≡ number) × (db.newest ≢ 0) × ((number < db.oldest) ⊎ (db.newest < number))
IsNoJob db number why = ⊥

abbrev pub IsNoJobStop : Db → ℕ → Stop → Type 0
IsNoJobStop db number (stop.Refused why) = IsNoJob db number why
IsNoJobStop db number stop.Failed = ⊥
IsNoJobStop db number stop.Memory = ⊥
IsNoJobStop db number (stop.Damaged path) = ⊥
IsNoJobStop db number stop.FarFailed = ⊥
IsNoJobStop db number (stop.FarDamaged path) = ⊥

-- ---- one job

-- The paths of the job of this number, with these entries, are in the map besides: the job is the next older one of any row of jobs
-- that the map had.
abbrev pub FindsNext : ℕ → List state.Entry → FoundMarks → FoundMarks → Type 0
FindsNext number es old new = (newest : ℕ) (jobs : List (List state.Entry)) → number ≡ newest - length jobs → AreFound newest jobs old → AreFound newest (jobs ++ es ∷ []) new

-- the job of this number was read, can be taken back, and is taken back
pub record HasTakenJob (x : Tree) (number : ℕ) (after before : List TroveParts) (old new : FoundMarks) : Type 0 where
  pub es : List state.Entry
  pub holds : HoldsRecord Two x number after before es
  pub can : CanUndoNext x old es
  pub found : FindsNext number es old new

-- it was read, and can't be taken back
pub record IsNotTaken (x : Tree) (number : ℕ) (after : List TroveParts) (found : FoundMarks) (why : Refusal) : Type 0 where
  pub before : List TroveParts
  pub es : List state.Entry
  pub holds : HoldsRecord Two x number after before es
  pub refused : (newest : ℕ) (jobs : List (List state.Entry)) → AreUndone x newest jobs found → IsUndoRefusal es (undone_all jobs (marks_of x)) why

abbrev pub IsTakeStop : Bool → Tree → ℕ → List TroveParts → FoundMarks → Type 0 → Stop → Type 0
IsTakeStop told x number after found rose stop.Failed = rose
IsTakeStop told x number after found rose stop.Memory = Unit {0}
IsTakeStop told x number after found rose (stop.Refused why) = IsUndoKind why × (IsTrue told → IsNotTaken x number after found why)
IsTakeStop told x number after found rose (stop.Damaged path) = IsTrue told → IsDamagedJob Two x number after path
IsTakeStop told x number after found rose stop.FarFailed = ⊥
IsTakeStop told x number after found rose (stop.FarDamaged path) = ⊥

-- ---- several jobs

-- so many jobs from the newest down were read and taken back; they lead to this list
pub record AreTaken (x : Tree) (db : Db) (count : ℕ) (list : List TroveParts) (found : FoundMarks) : Type 0 where
  pub jobs : List (List state.Entry)
  pub long : length jobs ≡ count
  pub holds : HoldsRecords Two x db.newest db.installed jobs list
  pub undone : AreUndone x db.newest jobs found

-- The next one of the jobs from the newest down to this number stops it, for a reason of its number, the list after it and what the
-- newer ones found.
pub record StopsAt (x : Tree) (db : Db) (number : ℕ) (Why : ℕ → List TroveParts → FoundMarks → Type 0) : Type 0 where
  pub count : ℕ
  pub list : List TroveParts
  pub found : FoundMarks
  pub taken : AreTaken x db count list found
  pub above : count + number ≤ db.newest
  pub why : Why (db.newest - count) list found

-- Why not all jobs from the newest down to this number were taken back.
abbrev pub IsJobsStop : Bool → Tree → Db → ℕ → Type 0 → Stop → Type 0
IsJobsStop told x db number rose stop.Failed = rose
IsJobsStop told x db number rose stop.Memory = Unit {0}
IsJobsStop told x db number rose (stop.Refused why) = IsUndoKind why × (IsTrue told → StopsAt x db number (λ n list found. IsNotTaken x n list found why))
IsJobsStop told x db number rose (stop.Damaged path) = IsTrue told → StopsAt x db number (λ n list found. IsDamagedJob Two x n list path)
IsJobsStop told x db number rose stop.FarFailed = ⊥
IsJobsStop told x db number rose (stop.FarDamaged path) = ⊥
