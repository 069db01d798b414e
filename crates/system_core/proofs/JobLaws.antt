-- A job on a root, by a system that the root stores.
use Rattle.std.proofs.Common.{◌≡◌, ◌⊎◌, ⊎_elim, ℕ, ◌≤◌, Bool, IsTrue, List, All, Option, Some, None, Result, Ok, Err, IsErrAnd, refl, sym, ◌∙◌, ap, subst}
use Rattle.std.specs.Prelude.{IfErr}
use Rattle.rollback_stack.specs.cny-base.Count.{Rose}
use Rattle.rollback_stack.specs.cny-base.Path.{parent}
use Rattle.rollback_stack.specs.cny-base.Reserved.{private_directory}
use Rattle.rollback_stack.specs.tree-disk.Rows.{is_dir_at}
use Rattle.tree_journal.specs.Recovery.{is_committed}
use Rattle.rollback_stack.specs.cny-base.declared.refusal.Refusal.{Refusal}
use Rattle.rollback_stack.specs.cny-base.declared.stop.Stop.{Stop}
use Rattle.rollback_stack.specs.cny-base.declared.stop.Stop.TheVariants.{Refused, Memory, Failed, Damaged, FarFailed, FarDamaged}
use Rattle.rollback_stack.specs.trove-stream.declared.parts.TroveParts.{TroveParts}
use Rattle.rollback_stack.specs.trove-stream.Trove.{IsTrove}
use Rattle.rollback_stack.specs.tree-disk.Tree.{Tree}
use Rattle.rollback_stack.specs.tree-disk.Disk.{DiskModel, HasRead, IsDisk}
use Rattle.rollback_stack.specs.tree-disk.Moments.{same_start, time_start}
use Rattle.rollback_stack.proofs.tree-disk.Moments.{rose_before}
use Rattle.rollback_stack.specs.content-store.Contents.{ContentsModel}
use Rattle.rollback_stack.specs.journal-log.declared.put.Put.{Put}
use Rattle.local_db.specs.declared.db.Db.{Db}
use Rattle.update_job.specs.declared.comparing.Change.{Change}
use Rattle.update_job.specs.Changes.{AreChanges}
use Rattle.local_db.specs.declared.format.Format.TheVariants.{Two}
use Rattle.local_db.specs.Installed.{IsInstalled}
use Rattle.local_db.specs.SystemState.{SystemState, newest, oldest}
use Rattle.local_db.specs.Stores.{HoldsDatabase, StoresIn}
use Rattle.local_db.specs.Steps.{after_job}
use Rattle.system_core.specs.RootWriting.{TakesRoot}
use Rattle.job_targets.specs.declared.targets.Targets.{Targets}
use Rattle.job_targets.specs.Gathering.{Gathers}
use Rattle.system_core.specs.Last.{ChangesNeither, IsRefusedLast, PassesLast}
use Rattle.system_core.specs.JobWriting.{AnswersJob, AreTargetsOf, CanWriteJob, CollidesWriting, IsJobStop, JobEnds, done}
use Rattle.system_core.specs.declared.done.Done.{Done}
use Rattle.system_core.specs.Job.{IsTestRefusal, IsTested, PassesTests, Sources, db_of, last, untested}
use Rattle.system_core.specs.Lists.{AllPathsAllowed, to_list}
use Rattle.system_core.specs.RootReady.{MayBeginJob}
use Rattle.system_core.specs.Steps.{StaysOrChanges, StepEnds, HasStepCause, StopsOnTheWay, changed, no_job, reading, unchanged, writing}
use Rattle.system_core.proofs.Held.{OneDatabase, SameParts, one_held}
use Rattle.system_core.proofs.Managed.{IsManaged, KeepsOut}
use Rattle.system_core.proofs.ManagedTargets.{test_refusal_managed, tested_managed}
use Rattle.system_core.proofs.ReadFirst.{goes_behind}
use Rattle.system_core.proofs.EndingAll.{err_is}
use Rattle.rollback_stack.proofs.Later.{read_as}
use Rattle.local_db.proofs.cny-base.Faults.{passed_on}

-- ---- why it stops, on every disk

module _ {D C : Type 0} {disk : DiskModel D} {contents : ContentsModel C} where
  pub tested_cause : {X : Type 0} {P : Tree → X → Type 0} {Q : Tree → Refusal → Type 0} {old mid : D} {far far' : C} (e : Stop)
      → Gathers disk contents P Q old mid far far' (Err e) → HasStepCause contents far far' (Rose (disk.faults old) (disk.faults mid)) e
  tested_cause (Refused why) run = tt
  tested_cause Memory run = tt
  tested_cause Failed run = run.ends
  tested_cause (Damaged path) run = run.ends
  tested_cause FarFailed run = run.ends
  tested_cause (FarDamaged path) run = run.ends

pub written_cause : {C : Type 0} (contents : ContentsModel C) (far far' : C) (a b c : ℕ) (told : Bool) (db : Db) (list : List TroveParts) (puts : List Put) (e : Stop) → a ≤ b
    → IsJobStop told (Rose b c) db list puts e → HasStepCause contents far far' (Rose a c) e
written_cause contents far far' a b c told db list puts (Refused why) early stops = tt
written_cause contents far far' a b c told db list puts Memory early stops = tt
written_cause contents far far' a b c told db list puts Failed early stops = rose_before a b c early stops.0
written_cause contents far far' a b c told db list puts (Damaged path) early stops = stops
written_cause contents far far' a b c told db list puts FarFailed early stops = absurd stops
written_cause contents far far' a b c told db list puts (FarDamaged path) early stops = absurd stops

pub cause_of : {T C : Type 0} (contents : ContentsModel C) (far far' : C) (rose : Type 0) (e : Stop) (r : Result T Stop) → IsErrAnd r (λ s. s ≡ e) → HasStepCause contents far far' rose e → IfErr r (HasStepCause contents far far' rose)
cause_of contents far far' rose e r is cause = passed_on (HasStepCause contents far far' rose) e r cause is

pub memory_cause : {T C : Type 0} (contents : ContentsModel C) (far far' : C) (rose : Type 0) (r : Result T Stop) → IsErrAnd r (λ s. s ≡ Memory) → IfErr r (HasStepCause contents far far' rose)
memory_cause contents far far' rose r is = cause_of contents far far' rose Memory r is tt

-- ---- by a system

-- no memory was left for the changes
pub memory_stop : {D : Type 0} {disk : DiskModel D} (laws : IsDisk disk) (from : Sources) (list : List TroveParts) (s : SystemState) (old : D) (now : Db) (r : Result Done Stop) → IsErrAnd r (λ x. x ≡ Memory)
    → StepEnds disk from (to_list list) s old old now r
memory_stop {disk = disk} laws from list s old now r is =
    subst (StepEnds disk from (to_list list) s old old now) (sym (err_is r Memory is)) (reading (record { answer = tt; same = same_start disk old; time = time_start laws old }))

module _ {D : Type 0} {disk : DiskModel D} (laws : IsDisk disk) (tells : IsTrue disk.tells) (from : Sources) (db : Db) (list : List TroveParts) (is_db : IsInstalled db.installed)
    (troves : All IsTrove list) (allowed : AllPathsAllowed list) (old : D) (ready : MayBeginJob disk db old) (unique : OneDatabase) (s : SystemState) (stores : StoresIn Two (disk.reads old) s) where
  parts : SameParts db.installed s.installed db.oldest db.newest (oldest s.stack) (newest s.stack)
  parts = one_held unique (disk.reads old) db.installed s.installed db.oldest db.newest (oldest s.stack) (newest s.stack) ready.holds stores.list

  db_is : db ≡ db_of s
  db_is = λ i. record { installed = parts.lists i; oldest = parts.lows i; newest = parts.highs i }

  managed : IsManaged (disk.reads old) s.tree
  managed = record { formed = laws.reads_well_formed old; managed_formed = stores.system.tree; agrees = stores.managed; empty = stores.system.managed }

  olds : KeepsOut db.installed
  olds = record { troves = is_db.troves; allowed = is_db.allowed }

  freshes : KeepsOut list
  freshes = record { troves = troves; allowed = allowed }

  passes : (made : Targets) → IsTested from db.installed list (disk.reads old) made → PassesTests from s list made.puts
  passes made is = (made, refl, subst (λ (l : List TroveParts). IsTested from l list s.tree made) parts.lists (tested_managed from db.installed list (disk.reads old) s.tree managed olds freshes made is))

  refused : (why : Refusal) → IsTestRefusal from db.installed list (disk.reads old) why → IsTestRefusal from s.installed list s.tree why
  refused why is = subst (λ (l : List TroveParts). IsTestRefusal from l list s.tree why) parts.lists (test_refusal_managed from db.installed list (disk.reads old) s.tree managed olds freshes why is)

  -- a test failed, or the tests stopped
  pub tests_end : {C : Type 0} {contents : ContentsModel C} {mid : D} {far far' : C} (now : Db) (e : Stop) → Gathers disk contents (IsTested from db.installed list) (IsTestRefusal from db.installed list) old mid far far' (Err e)
      → StepEnds disk from (to_list list) s old mid now (Err e)
  tests_end now (Refused why) run = read_as (run.same tells) (no_job list refl (untested (refused why (run.ends tells))))
  tests_end now Memory run = reading (run.same tells)
  tests_end now Failed run = reading (run.same tells)
  tests_end now (Damaged path) run = run.ends
  tests_end now FarFailed run = run.same tells
  tests_end now (FarDamaged path) run = run.same tells

  pub tests_stop : {C : Type 0} {contents : ContentsModel C} {mid : D} {far far' : C} (now : Db) (e : Stop) (r : Result Done Stop) → IsErrAnd r (λ x. x ≡ e)
      → Gathers disk contents (IsTested from db.installed list) (IsTestRefusal from db.installed list) old mid far far' (Err e)
      → StepEnds disk from (to_list list) s old mid now r
  tests_stop {mid = mid} now e r is run = subst (StepEnds disk from (to_list list) s old mid now) (sym (err_is r e is)) (tests_end now e run)

  module _ {C : Type 0} {contents : ContentsModel C} {mid : D} {far far' : C} (made : Targets) (run : Gathers disk contents (IsTested from db.installed list) (IsTestRefusal from db.installed list) old mid far far' (Ok made)) where
    read : HasRead disk old mid (Unit {0})
    read = run.same tells

    pub stored : StoresIn Two (disk.reads mid) s
    stored = subst (λ (x : Tree). StoresIn Two x s) (sym read.same.reads) stores

    module _ {new : D} (late : disk.faults mid ≤ disk.faults new) where
      went : {w : Result (Unit {0}) Stop} → TakesRoot disk Two s (after_job made.puts list s) made.puts mid new w → TakesRoot disk Two s (after_job made.puts list s) made.puts old new w
      went goes = goes_behind laws s ready.flag_clear ready.synced stores read Two (after_job made.puts list s) made.puts run.later late goes

      still : new ≡ mid → HasRead disk old new (Unit {0})
      still same = subst (λ (d : D). HasRead disk old d (Unit {0})) (sym same) read

      -- the writing stopped
      -- it was still to begin, or on its way behind the last tests
      way : (changes : List Change) → AreChanges db.installed list changes → (e : Stop) → (new ≡ mid) ⊎ PassesLast db list made.puts → TakesRoot disk Two s (after_job made.puts list s) made.puts mid new (Err e) → StopsOnTheWay disk from (to_list list) s old new e
      way changes are e tested goes = ⊎_elim
          (λ (same : new ≡ mid). reading (still same))
          (λ (passed : PassesLast db list made.puts). writing list refl made.puts (passes made (run.ends tells)) (subst (λ (d : Db). PassesLast d list made.puts) db_is passed) changes (subst (λ (l : List TroveParts). AreChanges l list changes) parts.lists are) (went goes))
          tested

      write_end : (changes : List Change) → AreChanges db.installed list changes → (now : Db) (e : Stop) → JobEnds disk made.puts list s mid new (Err e) → (IsTrue disk.tells → (why : Refusal) → e ≡ Refused why → IsRefusedLast db list made.puts why)
          → (new ≡ mid) ⊎ PassesLast db list made.puts → StepEnds disk from (to_list list) s old new now (Err e)
      write_end changes are now (Refused why) ends stops tested =
          read_as (still ends) (no_job list refl (last made.puts (passes made (run.ends tells)) (subst (λ (d : Db). IsRefusedLast d list made.puts why) db_is (stops tells why refl))))
      write_end changes are now Memory ends stops tested = way changes are Memory tested ends
      write_end changes are now Failed ends stops tested = way changes are Failed tested ends
      write_end changes are now (Damaged path) ends stops tested = ends
      write_end changes are now FarFailed ends stops tested = absurd ends
      write_end changes are now (FarDamaged path) ends stops tested = absurd ends

      refusal_of_stop : (rose : Type 0) (e : Stop) → IsJobStop disk.tells rose db list made.puts e → IsTrue disk.tells → (why : Refusal) → e ≡ Refused why → IsRefusedLast db list made.puts why
      refusal_of_stop rose e stops told why is = ⊎_elim
          (λ (refused : IsRefusedLast db list made.puts why). refused)
          (λ (collides : CollidesWriting disk.tells db list made.puts why). absurd (collides.collision.untold told))
          (subst (IsJobStop disk.tells rose db list made.puts) is stops)

      pub write_stop : (changes : List Change) → AreChanges db.installed list changes → (rose : Type 0) (now : Db) (e : Stop) (r : Result Done Stop) → IsErrAnd r (λ x. x ≡ e) → JobEnds disk made.puts list s mid new (Err e) → IsJobStop disk.tells rose db list made.puts e
          → (new ≡ mid) ⊎ PassesLast db list made.puts → StepEnds disk from (to_list list) s old new now r
      write_stop changes are rose now e r is ends stops tested = subst (StepEnds disk from (to_list list) s old new now) (sym (err_is r e is)) (write_end changes are now e ends (refusal_of_stop rose e stops) tested)

      -- the database afterwards
      db_then : (now : Db) (t : SystemState) → HoldsDatabase Two (disk.reads new) now.installed now.oldest now.newest → StoresIn Two (disk.reads new) t → now ≡ db_of t
      db_then now t holds stored_then =
          let same : SameParts now.installed t.installed now.oldest now.newest (oldest t.stack) (newest t.stack) =
          one_held unique (disk.reads new) now.installed t.installed now.oldest now.newest (oldest t.stack) (newest t.stack) holds stored_then.list in
          λ i. record { installed = same.lists i; oldest = same.lows i; newest = same.highs i }

      end_with : (now : Db) (number : Option ℕ) → JobEnds disk made.puts list s mid new (Ok number) → AnswersJob db list made.puts now (Ok number)
          → HoldsDatabase Two (disk.reads new) now.installed now.oldest now.newest → StaysOrChanges disk s list made.puts old new now number
      end_with now None ends answers holds =
          unchanged (subst (λ (d : Db). ChangesNeither d list made.puts) db_is answers.1) (still ends) (answers.0 ∙ db_is) refl
      end_with now (Some n) ends answers holds =
          let goes : TakesRoot disk Two s (after_job made.puts list s) made.puts mid new done = ends.1 in
          changed (subst (λ (d : Db). PassesLast d list made.puts) db_is answers.2) (went goes)
          (db_then now (after_job made.puts list s) holds goes.rests.stores) (ap Some ends.0)

      pub write_done : (now : Db) (changes : List Change) (number : Option ℕ) → AreChanges db.installed list changes → JobEnds disk made.puts list s mid new (Ok number)
          → AnswersJob db list made.puts now (Ok number) → HoldsDatabase Two (disk.reads new) now.installed now.oldest now.newest
          → StepEnds disk from (to_list list) s old new now (Ok (record { changes = changes; number = number }))
      write_done now changes number are ends answers holds = record {
        list = list;
        leads = refl;
        puts = made.puts;
        passes = passes made (run.ends tells);
        ends = end_with now number ends answers holds;
        changes = subst (λ (l : List TroveParts). AreChanges l list changes) parts.lists are;
      }

-- ---- what the writing asks

module _ {D : Type 0} (disk : DiskModel D) (db : Db) (old mid : D) (ready : MayBeginJob disk db old) (read : HasRead disk old mid (Unit {0})) where
  pub can_write : (made : Targets) → AreTargetsOf (disk.reads old) made.puts made.entries → CanWriteJob disk db made.puts made.entries mid
  can_write made over = record {
    flag_clear = ap (λ (x : Tree). is_committed private_directory x) read.same.reads ∙ ready.flag_clear;
    synced = λ q. read.same.unsynced q ∙ ready.synced q;
    pinned = ap (λ (x : Tree). is_dir_at x (parent private_directory)) read.same.reads ∙ ready.pinned;
    holds = subst (λ (x : Tree). HoldsDatabase Two x db.installed db.oldest db.newest) (sym read.same.reads) ready.holds;
    targets = subst (λ (x : Tree). AreTargetsOf x made.puts made.entries) (sym read.same.reads) over;
  }
