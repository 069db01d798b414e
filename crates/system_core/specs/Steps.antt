-- How a job of a root ends.
use Rattle.std.specs.Prelude.{◌≡◌, ℕ, ◌+◌, List, Option, Some, None, Result, Ok, Err}
use Rattle.rollback_stack.specs.cny-base.Count.{Rose}
use Rattle.rollback_stack.specs.cny-base.declared.refusal.Refusal.{Refusal}
use Rattle.rollback_stack.specs.cny-base.declared.refusal.Refusal.TheVariants as refusal
use Rattle.rollback_stack.specs.cny-base.declared.refusal.What.{What}
use Rattle.rollback_stack.specs.cny-base.declared.refusal.What.TheVariants as what
use Rattle.rollback_stack.specs.cny-base.declared.stop.Stop.{Stop}
use Rattle.rollback_stack.specs.cny-base.declared.stop.Stop.TheVariants.{Refused, Memory, Failed, Damaged, FarFailed, FarDamaged}
use Rattle.rollback_stack.specs.content-store.Contents.{ContentsModel}
use Rattle.rollback_stack.specs.journal-log.declared.put.Put.{Put}
use Rattle.rollback_stack.specs.trove-stream.declared.parts.TroveParts.{TroveParts}
use Rattle.rollback_stack.specs.tree-disk.Disk.{DiskModel, HasRead}
use Rattle.local_db.specs.declared.format.Format.TheVariants.{Two}
use Rattle.local_db.specs.SystemState.{SystemState, newest}
use Rattle.local_db.specs.Steps.{after_job}
use Rattle.local_db.specs.declared.db.Db.{Db}
use Rattle.update_job.specs.declared.comparing.Change.{Change}
use Rattle.update_job.specs.Changes.{AreChanges}
use Rattle.system_core.specs.RootWriting.{TakesRoot}
use Rattle.rollback_stack.specs.content-store.Searches.{IsFarDamage, LacksSome}
use Rattle.rollback_stack.specs.tree-scan.OnlyReads.{IsStopBy}
use Rattle.system_core.specs.Last.{ChangesNeither, PassesLast}
use Rattle.system_core.specs.JobWriting.{done}
use Rattle.system_core.specs.declared.done.Done.{Done}
use Rattle.system_core.specs.Job.{IsJobRefusal, PassesTests, Sources, db_of}
use Rattle.system_core.specs.Lists.{ListStep}

-- ---- how it ends

-- Neither the tree nor the list changes, and nothing was done; or the job leads from the system to the one after it, with the next
-- number. The database is that of the system which the root then stores.
pub data StaysOrChanges {D : Type 0} (disk : DiskModel D) (s : SystemState) (list : List TroveParts) (puts : List Put) (old new : D) (db : Db) (number : Option ℕ) : Type 0 where
  unchanged : ChangesNeither (db_of s) list puts → HasRead disk old new (Unit {0}) → db ≡ db_of s → number ≡ None
      → StaysOrChanges disk s list puts old new db number
  changed : PassesLast (db_of s) list puts → TakesRoot disk Two s (after_job puts list s) puts old new done → db ≡ db_of (after_job puts list s)
      → number ≡ Some (newest s.stack + 1) → StaysOrChanges disk s list puts old new db number

-- a list follows, the job's tests passed, and so it ended
pub record IsStepDone {D : Type 0} (disk : DiskModel D) (from : Sources) (step : ListStep) (s : SystemState) (old new : D) (db : Db) (made : Done) : Type 0 where
  pub list : List TroveParts
  pub leads : step.leads list
  pub puts : List Put
  pub passes : PassesTests from s list puts
  pub ends : StaysOrChanges disk s list puts old new db made.number
  pub changes : AreChanges s.installed list made.changes

-- no list follows, or the first test that fails is this one
pub data IsRefusal (from : Sources) (step : ListStep) (s : SystemState) (why : Refusal) : Type 0 where
  no_list : step.refuses why → IsRefusal from step s why
  no_job : (list : List TroveParts) → step.leads list → IsJobRefusal from s list why → IsRefusal from step s why

-- so far the root was only read; or all tests passed, and the write set was on its way
pub data StopsOnTheWay {D : Type 0} (disk : DiskModel D) (from : Sources) (step : ListStep) (s : SystemState) (old new : D) (stop : Stop) : Type 0 where
  reading : HasRead disk old new (Unit {0}) → StopsOnTheWay disk from step s old new stop
  writing : (list : List TroveParts) → step.leads list → (puts : List Put) → PassesTests from s list puts → PassesLast (db_of s) list puts
      → (changes : List Change) → AreChanges s.installed list changes → TakesRoot disk Two s (after_job puts list s) puts old new (Err stop) → StopsOnTheWay disk from step s old new stop

-- How a job ends, from a system that the root stores. What is refused changes nothing.
abbrev pub StepEnds : {D : Type 0} → DiskModel D → Sources → ListStep → SystemState → D → D → Db → Result Done Stop → Type 0
StepEnds disk from step s old new db (Ok made) = IsStepDone disk from step s old new db made
StepEnds disk from step s old new db (Err (Refused why)) = HasRead disk old new (IsRefusal from step s why)
StepEnds disk from step s old new db (Err Failed) = StopsOnTheWay disk from step s old new Failed
StepEnds disk from step s old new db (Err Memory) = StopsOnTheWay disk from step s old new Memory
StepEnds disk from step s old new db (Err (Damaged path)) = ⊥
StepEnds disk from step s old new db (Err FarFailed) = HasRead disk old new (Unit {0})
StepEnds disk from step s old new db (Err (FarDamaged path)) = HasRead disk old new (Unit {0})

-- why it stops, on every disk: a fault of the root or of the contents only where its count rose
abbrev pub HasStepCause : {C : Type 0} → ContentsModel C → C → C → Type 0 → Stop → Type 0
HasStepCause contents far far' rose Failed = rose
HasStepCause contents far far' rose Memory = Unit {0}
HasStepCause contents far far' rose (Refused why) = Unit {0}
HasStepCause contents far far' rose (Damaged path) = ⊥
HasStepCause contents far far' rose FarFailed = Rose (contents.faults far) (contents.faults far')
HasStepCause contents far far' rose (FarDamaged path) = IsFarDamage contents LacksSome far path

-- the same of a job without contents behind it
abbrev pub HasOwnCause : Type 0 → Stop → Type 0
HasOwnCause rose Failed = rose
HasOwnCause rose Memory = Unit {0}
HasOwnCause rose (Refused why) = Unit {0}
HasOwnCause rose (Damaged path) = ⊥
HasOwnCause rose FarFailed = ⊥
HasOwnCause rose (FarDamaged path) = ⊥

-- ---- erasures

-- a file that it replaces, the database and the number of jobs have limits
abbrev pub IsJobLimit : What → Type 0
IsJobLimit what.Local = Unit {0}
IsJobLimit what.Database = Unit {0}
IsJobLimit what.Jobs = Unit {0}
IsJobLimit _ = ⊥

-- what an erasure may be refused by: it writes no file, so that no content is missing, and no path of it is new or newly shared
abbrev pub IsErasureRefusal : Refusal → Type 0
IsErasureRefusal (refusal.NotInstalled name) = Unit {0}
IsErasureRefusal (refusal.Unmet name dep) = Unit {0}
IsErasureRefusal (refusal.Edited path) = Unit {0}
IsErasureRefusal (refusal.Parent path) = Unit {0}
IsErasureRefusal (refusal.TooLarge kind size) = IsJobLimit kind
IsErasureRefusal (refusal.Collision name at) = Unit {0}
IsErasureRefusal _ = ⊥

-- how an erasure may stop: no file of it is damaged, and it searches no contents
abbrev pub IsErasureStop : Stop → Type 0
IsErasureStop = IsStopBy IsErasureRefusal
