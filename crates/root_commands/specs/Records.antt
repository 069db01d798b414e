-- A damaged record isn't passed over by the commands that read records, also where the root stores no system.
use Rattle.std.specs.Prelude.{◌≡◌, ◌⊎◌, ℕ, ◌+◌, List, length, Option, None, Some, Result, Ok, Err}
use Rattle.rollback_stack.specs.JobReading.{HoldsRecords, IsDamagedRecord}
use Rattle.local_db.specs.declared.db.Db.{Db}
use Rattle.local_db.specs.Record as state
use Rattle.cli_call.specs.job-targets.Old.{IsDamagedOld}
use Rattle.cli_call.specs.past-jobs.Jobs.{oldest_with, undone_all}
use Rattle.cli_call.specs.past-jobs.Marks.{marks_of}
use Rattle.cli_call.specs.trove-stream.declared.parts.TroveParts.{TroveParts}
use Rattle.rollback_stack.specs.Inverse.{IsDamagedJob}
use Rattle.rollback_stack.specs.Numbers.{job_count}
use Rattle.local_db.specs.declared.format.Format.TheVariants.{Two}
use Rattle.cli_call.specs.tree-disk.Tree.{Name, Tree}
use Rattle.cli_call.specs.cny-laws.declared.failure.Failure.{Failure}
use Rattle.cli_call.specs.cny-laws.declared.failure.Failure.TheVariants as failure

-- no file is damaged in this way
abbrev pub NoneIs : (Name → Type 0) → Type 0
NoneIs IsDamaged = (path : Name) → IsDamaged path → ⊥

-- After Ok no file is damaged in the one way, and after a refusal none in the other.
abbrev pub FindsNone : {A : Type 0} → (Name → Type 0) → (Name → Type 0) → Result A Failure → Type 0
FindsNone IsDamaged IsDamagedFirst (Ok answer) = NoneIs IsDamaged
FindsNone IsDamaged IsDamagedFirst (Err (failure.Refused why)) = NoneIs IsDamagedFirst
FindsNone IsDamaged IsDamagedFirst (Err failure.Usage) = Unit {0}
FindsNone IsDamaged IsDamagedFirst (Err failure.InputFault) = Unit {0}
FindsNone IsDamaged IsDamagedFirst (Err failure.OutputFault) = Unit {0}
FindsNone IsDamaged IsDamagedFirst (Err failure.RootFault) = Unit {0}
FindsNone IsDamaged IsDamagedFirst (Err failure.RepositoryFault) = Unit {0}
FindsNone IsDamaged IsDamagedFirst (Err failure.Memory) = Unit {0}
FindsNone IsDamaged IsDamagedFirst (Err (failure.Damaged path)) = Unit {0}

-- ---- all jobs told

-- This is the first record, from the newest down, that is damaged.
abbrev pub IsDamagedOfAll : Tree → Db → Name → Type 0
IsDamagedOfAll tree db path = IsDamagedRecord Two tree (job_count db.oldest db.newest) db.newest db.installed path

-- After Ok and after a refusal no record is.
abbrev pub ListsWhole : {A : Type 0} → Tree → Db → Result A Failure → Type 0
ListsWhole tree db result = FindsNone (IsDamagedOfAll tree db) (IsDamagedOfAll tree db) result

-- ---- jobs taken back

-- the number of the oldest job that is to be taken back
abbrev pub last_job : Option ℕ → Db → ℕ
last_job None db = db.newest
last_job (Some number) db = number

-- A content that is to stand again once the jobs down to this number are taken back, whether or not they can be, isn't saved as its
-- fingerprint tells: this is its path.
pub record IsUnsavedContent (x : Tree) (db : Db) (number : ℕ) (path : Name) : Type 0 where
  pub jobs : List (List state.Entry)
  pub before : List TroveParts
  pub count : length jobs + number ≡ db.newest + 1
  pub holds : HoldsRecords Two x db.newest db.installed jobs before
  pub place : Name
  pub job : ℕ
  pub named : oldest_with db.newest jobs place ≡ Some job
  pub damaged : IsDamagedOld x job (undone_all jobs (marks_of x) place) path

-- The record of a job that is to be taken back is damaged, once the newer ones can be taken back; or a content that is to stand again.
abbrev pub IsDamagedBack : Option ℕ → Tree → Db → Name → Type 0
IsDamagedBack number tree db path = IsDamagedJob tree db (last_job number db) path ⊎ IsUnsavedContent tree db (last_job number db) path

-- After Ok neither is, and after a refusal no record.
abbrev pub TakesBackWhole : {A : Type 0} → Option ℕ → Tree → Db → Result A Failure → Type 0
TakesBackWhole number tree db result = FindsNone (IsDamagedBack number tree db) (IsDamagedJob tree db (last_job number db)) result
