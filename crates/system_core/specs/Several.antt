-- How several rollbacks at once end on a root: of all jobs from the newest down to the one of a number.
use Rattle.std.specs.Prelude.{◌≡◌, ◌≢◌, ◌⊎◌, ℕ, ◌+◌, ◌-◌, ◌<◌, ◌≤◌, List, [], ◌∷◌, ◌++◌, length, take, drop, Result, Ok, Err, Contains}
use Rattle.rollback_stack.specs.cny-base.declared.refusal.Refusal.{Refusal}
use Rattle.rollback_stack.specs.cny-base.declared.refusal.Refusal.TheVariants.{Edited, NoJob, Parent, StackEmpty}
use Rattle.rollback_stack.specs.cny-base.declared.stop.Stop.{Stop}
use Rattle.rollback_stack.specs.cny-base.declared.stop.Stop.TheVariants as stop
use Rattle.rollback_stack.specs.journal-log.declared.put.Put.{Put}
use Rattle.rollback_stack.specs.trove-stream.declared.parts.TroveParts.{TroveParts}
use Rattle.rollback_stack.specs.tree-disk.Tree.{Name, Tree}
use Rattle.rollback_stack.specs.tree-disk.Disk.{DiskModel, HasRead}
use Rattle.local_db.specs.declared.db.Db.{Db}
use Rattle.local_db.specs.Record as state
use Rattle.local_db.specs.SystemState.{StackItem, SystemState, newest}
use Rattle.local_db.specs.Steps.{CanRollBackAll, IsUnion, after_rollbacks}
use Rattle.rollback_stack.specs.past-jobs.Outcome.{IsUndoKind}
use Rattle.rollback_stack.specs.declared.undo.Back.{Back}
use Rattle.rollback_stack.specs.Database.{db_below}
use Rattle.system_core.specs.RootWriting.{IsPut}
use Rattle.rollback_stack.specs.Inverse.{AreJobsTo, AreOldNodes, IsBackRefusal, IsDamagedJob, IsFirstDamagedContent, no_records}
use Rattle.system_core.specs.Inserting.{HasBytes, put_of_db}
use Rattle.system_core.specs.Rollback.{HasOnlyRead, MovesSystem}
use Rattle.system_core.specs.Tests.{IsFirstEditedSince, IsFirstWithoutDirectory}
use Rattle.system_core.specs.Job.{db_of}

-- ---- the writes

-- The jobs of the database from the newest down to this number can be taken back: these are all writes, the database's among them,
-- and the database afterwards.
pub record IsStepTo (x : Tree) (db : Db) (number : ℕ) (step : Back) : Type 0 where
  pub jobs : List (List state.Entry)
  pub before : List TroveParts
  pub nodes : List Put
  pub jobs_are : AreJobsTo x db number jobs before
  pub nodes_are : AreOldNodes x db.newest jobs nodes
  pub db_is : step.db ≡ db_below db before number
  pub writes : IsUnion step.puts nodes (put_of_db step.db ∷ no_records (length jobs) db.newest)
  pub bytes : HasBytes step.db

-- ---- by a system that the root stores

-- how many jobs there are from the newest down to this number
abbrev pub count_to : ℕ → List StackItem → ℕ
count_to number stack = newest stack + 1 - number

-- the jobs from the newest down to this number, and those below
abbrev pub jobs_to : ℕ → List StackItem → List StackItem
jobs_to number stack = take (count_to number stack) stack

abbrev pub jobs_below : ℕ → List StackItem → List StackItem
jobs_below number stack = drop (count_to number stack) stack

-- the system with them taken back, one after the other
abbrev pub rolled_back_to : ℕ → SystemState → SystemState
rolled_back_to number s = after_rollbacks (jobs_to number s.stack) (jobs_below number s.stack) s

-- the paths of some jobs
abbrev pub paths_of_jobs : List StackItem → List Name
paths_of_jobs [] = []
paths_of_jobs (o ∷ os) = o.paths ++ paths_of_jobs os

-- a job of the stack has this number
abbrev pub HasJob : List StackItem → ℕ → Type 0
HasJob stack number = (o : StackItem) × Contains stack o × (o.number ≡ number)

-- Each of the jobs could be taken back when its turn came. So many they are, and this is the database afterwards.
pub record AreTakenBack (s : SystemState) (number : ℕ) (db : Db) (count : ℕ) : Type 0 where
  pub job : HasJob s.stack number
  pub can : CanRollBackAll (jobs_to number s.stack) (jobs_below number s.stack) s
  pub count_is : count ≡ length (jobs_to number s.stack)
  pub db_is : db ≡ db_of (rolled_back_to number s)

-- There is a job of the number. When the turn of one of the jobs comes, and the newer ones could be taken back, this holds of it in
-- the tree that they leave.
pub record OfTurn (s : SystemState) (number : ℕ) (P : StackItem → Tree → Type 0) : Type 0 where
  pub asked : HasJob s.stack number
  pub newer : List StackItem
  pub job : StackItem
  pub olds : List StackItem
  pub stack_is : s.stack ≡ newer ++ job ∷ olds
  pub down_to : number ≤ job.number
  pub can : CanRollBackAll newer (job ∷ olds) s
  pub holds : P job (after_rollbacks newer (job ∷ olds) s).tree

-- Why a system's jobs down to this number aren't taken back.
abbrev pub IsRefusalTo : SystemState → ℕ → Refusal → Type 0
IsRefusalTo s number StackEmpty = s.stack ≡ []
IsRefusalTo s number (NoJob n) = (n ≡ number) × (s.stack ≢ []) × (HasJob s.stack number → ⊥)
IsRefusalTo s number (Edited path) = OfTurn s number (λ o tree. IsFirstEditedSince o tree path)
IsRefusalTo s number (Parent path) = OfTurn s number (λ o tree. IsFirstWithoutDirectory o tree path)
IsRefusalTo s number _ = ⊥

-- Nothing of a root that stores a system is damaged.
abbrev pub EndsTo : SystemState → ℕ → Db → Result ℕ Stop → Type 0
EndsTo s number db (Ok count) = AreTakenBack s number db count
EndsTo s number db (Err (stop.Refused why)) = IsRefusalTo s number why
EndsTo s number db (Err stop.Failed) = Unit {0}
EndsTo s number db (Err stop.Memory) = Unit {0}
EndsTo s number db (Err (stop.Damaged path)) = ⊥
EndsTo s number db (Err stop.FarFailed) = ⊥
EndsTo s number db (Err (stop.FarDamaged path)) = ⊥

-- There is a job of the number, and each of the jobs down to it can be taken back when its turn comes.
abbrev pub CanTakeBackTo : SystemState → ℕ → Type 0
CanTakeBackTo s number = HasJob s.stack number × CanRollBackAll (jobs_to number s.stack) (jobs_below number s.stack) s

-- From a system that the root stores to the one with the jobs down to this number taken back, with the database of that. Where they
-- can't be taken back nothing is done but reading, whatever is answered.
pub record RollsBackTo {D : Type 0} (disk : DiskModel D) (s : SystemState) (number : ℕ) (db : Db) (old new : D) (result : Result ℕ Stop) : Type 0 where
  pub ends : EndsTo s number db result
  pub only : HasOnlyRead disk old new ⊎ CanTakeBackTo s number
  pub moves : MovesSystem disk s (rolled_back_to number s) (paths_of_jobs (jobs_to number s.stack)) old new result

-- ---- on each root

-- the records of the jobs and the contents that are to stand again are there, and the jobs can be taken back
abbrev pub HasStepTo : Tree → Db → ℕ → Type 0
HasStepTo x db number = (step : Back) × IsStepTo x db number step

-- The jobs were taken back: there was a step by the tree before, all its writes stand, so many jobs there are from the newest down to
-- this number, and this is the step's database.
pub record HasTakenBackTo {D : Type 0} (disk : DiskModel D) (before after : Db) (number : ℕ) (old new : D) (count : ℕ) : Type 0 where
  pub step : Back
  pub step_is : IsStepTo (disk.reads old) before number step
  pub put : IsPut disk step.puts old new
  pub count_is : count + number ≡ before.newest + 1
  pub db_is : after ≡ step.db

-- on every disk: the refusals that there are, and for which databases the first two
abbrev pub IsRefusalKindTo : Db → ℕ → Refusal → Type 0
IsRefusalKindTo db number StackEmpty = db.newest ≡ 0
IsRefusalKindTo db number (NoJob n) = (n ≡ number) × (db.newest ≢ 0) × ((number < db.oldest) ⊎ (db.newest < number))
IsRefusalKindTo db number why = IsUndoKind why

-- of the newest job: the same without `NoJob`
abbrev pub IsRefusalKind : Db → Refusal → Type 0
IsRefusalKind db StackEmpty = db.newest ≡ 0
IsRefusalKind db why = IsUndoKind why

-- A refusal and a damaged file change nothing. Where there is no step nothing is done but reading.
abbrev pub StopsTo : {D : Type 0} → DiskModel D → Db → ℕ → D → D → Stop → Type 0
StopsTo disk db number old new (stop.Refused why) = HasRead disk old new (IsBackRefusal disk.tells (disk.reads old) db number why)
StopsTo disk db number old new (stop.Damaged path) = HasRead disk old new (IsDamagedJob (disk.reads old) db number path ⊎ IsFirstDamagedContent (disk.reads old) db number path)
StopsTo disk db number old new stop.Failed = HasOnlyRead disk old new ⊎ HasStepTo (disk.reads old) db number
StopsTo disk db number old new stop.Memory = HasOnlyRead disk old new ⊎ HasStepTo (disk.reads old) db number
StopsTo disk db number old new stop.FarFailed = ⊥
StopsTo disk db number old new (stop.FarDamaged path) = ⊥

-- ---- the newest job alone

-- It answers the number of the job. By how many jobs were taken back that is one.
abbrev pub counted : Result ℕ Stop → Result ℕ Stop
counted (Ok number) = Ok 1
counted (Err stop) = Err stop
