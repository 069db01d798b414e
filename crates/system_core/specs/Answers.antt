-- What a job answers on every disk, also on one that tells nothing.
use Rattle.std.specs.Prelude.{◌≡◌, ℕ, IsTrue, List, Option, Some, None, Result, Ok, Err}
use Rattle.rollback_stack.specs.cny-base.declared.refusal.Fault.TheVariants as fault
use Rattle.rollback_stack.specs.cny-base.declared.refusal.Refusal.{Refusal}
use Rattle.rollback_stack.specs.cny-base.declared.refusal.Refusal.TheVariants as refusal
use Rattle.rollback_stack.specs.cny-base.declared.refusal.What.TheVariants.{Local}
use Rattle.rollback_stack.specs.cny-base.declared.stop.Stop.{Stop}
use Rattle.rollback_stack.specs.cny-base.declared.stop.Stop.TheVariants.{Refused, Memory, Failed, Damaged, FarFailed, FarDamaged}
use Rattle.rollback_stack.specs.trove-stream.declared.parts.TroveParts.{TroveParts}
use Rattle.rollback_stack.specs.tree-disk.Tree.{Tree}
use Rattle.rollback_stack.specs.tree-disk.Disk.{DiskModel, HasRead, Reads}
use Rattle.rollback_stack.specs.journal-log.declared.put.Put.{Put}
use Rattle.conflict_plan.specs.Plan.{IsFirstShared, IsUnshared}
use Rattle.dep_closure.specs.Closed.{IsClosed, IsUnmetOrMemory}
use Rattle.update_job.specs.declared.comparing.Change.{Change}
use Rattle.update_job.specs.Changes.{AreChanges}
use Rattle.job_targets.specs.declared.targets.Targets.{Targets}
use Rattle.system_core.specs.Last.{db_after, IsRefusedLast, PassesLast}
use Rattle.system_core.specs.JobWriting.{AnswersJob, CollidesWriting, HasTargets, MovesTrees}
use Rattle.local_db.specs.declared.db.Db.{Db}
use Rattle.local_db.specs.Installed.{IsInstalled}
use Rattle.system_core.specs.declared.done.Done.{Done}
use Rattle.system_core.specs.Job.{IsTestRefusal, IsTested, Sources}
use Rattle.system_core.specs.Lists.{ListStep}

-- ---- the tests of the list and of the tree

-- the tests that depend on the list alone: it is closed, and no path of it is shared
pub record PassesListTests (list : List TroveParts) : Type 0 where
  pub closed : IsClosed list
  pub unshared : IsUnshared list

-- The refusals of these tests: of the list the first one, exactly so; and of the tree these kinds, once the list has passed.
abbrev pub IsTestAnswer : List TroveParts → Refusal → Type 0
IsTestAnswer list (refusal.Unmet name dep) = IsUnmetOrMemory list (fault.Refused (refusal.Unmet name dep))
IsTestAnswer list (refusal.Owned path first second) = IsClosed list × IsFirstShared list path first second
IsTestAnswer list (refusal.Unowned path) = PassesListTests list
IsTestAnswer list (refusal.Edited path) = PassesListTests list
IsTestAnswer list (refusal.Parent path) = PassesListTests list
IsTestAnswer list (refusal.MissingContent name) = PassesListTests list
IsTestAnswer list (refusal.TooLarge kind size) = (kind ≡ Local) × PassesListTests list
IsTestAnswer list (refusal.Collision name at) = PassesListTests list
IsTestAnswer list _ = ⊥

-- one of them, or a fault once the list has passed, or want of memory
abbrev pub IsJobTestStop : List TroveParts → Stop → Type 0
IsJobTestStop list (Refused why) = IsTestAnswer list why
IsJobTestStop list Memory = Unit {0}
IsJobTestStop list Failed = PassesListTests list
IsJobTestStop list (Damaged path) = ⊥
IsJobTestStop list FarFailed = PassesListTests list
IsJobTestStop list (FarDamaged path) = PassesListTests list

-- these are the writes of a plan over this tree, which passes the tests
abbrev pub HasWrites : Sources → List TroveParts → List TroveParts → Tree → List Put → Type 0
HasWrites from before list tree puts = (made : Targets) × (puts ≡ made.puts) × IsTested from before list tree made

-- ---- what a call answers

-- What a crash leaves while a job is done: without a number the root was only read.
abbrev pub DoneMoves : {D : Type 0} → DiskModel D → List Put → Db → List TroveParts → D → D → Option ℕ → Type 0
DoneMoves disk puts db list old new None = HasRead disk old new (Unit {0})
DoneMoves disk puts db list old new (Some number) = MovesTrees disk puts db (db_after db list) old new

-- A list follows that of the database, it is closed and keeps the rules of installed lists, the number and the database afterwards
-- are those of a job with it, and these are the changes. Where the disk tells its tree, the tests passed over it, and it has the targets.
pub record AnswersDone {D : Type 0} (disk : DiskModel D) (from : Sources) (step : ListStep) (db : Db) (old new : D) (now : Db) (made : Done) : Type 0 where
  pub list : List TroveParts
  pub leads : step.leads list
  pub closed : IsClosed list
  pub rules : IsInstalled list
  pub puts : List Put
  pub answers : AnswersJob db list puts now (Ok made.number)
  pub changes : AreChanges db.installed list made.changes
  pub tested : IsTrue disk.tells → HasWrites from db.installed list (disk.reads old) puts
  pub outer : IsTrue disk.tells → HasTargets disk puts old new
  pub moments : IsTrue disk.tells → DoneMoves disk puts db list old new made.number

-- No list follows; or the first test that fails is this one; or all of these passed, and one of the last tests fails. Where the disk
-- tells its tree it was only read, and these are the tests over it. On a disk that tells nothing an old content may collide while the
-- job is written, behind all tests.
pub data AnswersRefusal {D : Type 0} (disk : DiskModel D) (from : Sources) (step : ListStep) (db : Db) (old new : D) (why : Refusal) : Type 0 where
  no_list : step.refuses why → new ≡ old → AnswersRefusal disk from step db old new why
  untested : (list : List TroveParts) → step.leads list → IsTestAnswer list why → Reads disk old new (IsTestRefusal from db.installed list (disk.reads old) why)
      → AnswersRefusal disk from step db old new why
  last : (list : List TroveParts) → step.leads list → PassesListTests list → (puts : List Put) → IsRefusedLast db list puts why
      → Reads disk old new (HasWrites from db.installed list (disk.reads old) puts) → AnswersRefusal disk from step db old new why
  collided : (list : List TroveParts) → step.leads list → PassesListTests list → (puts : List Put) → CollidesWriting disk.tells db list puts why
      → AnswersRefusal disk from step db old new why

-- a list follows, and it passes its tests
abbrev pub HasList : ListStep → Type 0
HasList step = (list : List TroveParts) × step.leads list × PassesListTests list

-- What a call answers, by the database and the list that it is called with. A fault comes only once the list has passed its tests, and
-- one of the contents behind it only while the root is read.
abbrev pub AnswersCall : {D : Type 0} → DiskModel D → Sources → ListStep → Db → D → D → Db → Result Done Stop → Type 0
AnswersCall disk from step db old new now (Ok made) = AnswersDone disk from step db old new now made
AnswersCall disk from step db old new now (Err (Refused why)) = AnswersRefusal disk from step db old new why
AnswersCall disk from step db old new now (Err Memory) = Unit {0}
AnswersCall disk from step db old new now (Err Failed) = HasList step
AnswersCall disk from step db old new now (Err (Damaged path)) = ⊥
AnswersCall disk from step db old new now (Err FarFailed) = HasList step × Reads disk old new (Unit {0})
AnswersCall disk from step db old new now (Err (FarDamaged path)) = HasList step × Reads disk old new (Unit {0})

-- ---- what a crash leaves meanwhile

-- However a call ends: so far the root was only read; or a list follows, all tests passed, and at every moment a crash leaves a tree
-- that recovers to the tree and the database before the job, or to those after it.
pub data StepMoves {D : Type 0} (disk : DiskModel D) (from : Sources) (step : ListStep) (db : Db) (old new : D) : Type 0 where
  only_read : HasRead disk old new (Unit {0}) → StepMoves disk from step db old new
  moves : (list : List TroveParts) → step.leads list → (puts : List Put) → HasWrites from db.installed list (disk.reads old) puts → PassesLast db list puts
      → (changes : List Change) → AreChanges db.installed list changes → MovesTrees disk puts db (db_after db list) old new → StepMoves disk from step db old new
