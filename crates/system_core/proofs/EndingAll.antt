-- How several rollbacks at once end: what is restored, and the write set put on the root.
use Rattle.std.proofs.Common.{◌≡◌, inl, inr, ℕ, ◌+◌, ◌≤◌, Bool, IsTrue, List, ◌∷◌, ◌++◌, Result, Ok, Err, All, Contains, refl, sym, ◌∙◌, ap, subst, arith}
use Rattle.std.specs.Prelude.{IsErrAnd, OnOk}
use Rattle.std.specs.FinMap.{get}
use Rattle.rollback_stack.specs.cny-base.declared.refusal.Refusal.{Refusal}
use Rattle.rollback_stack.specs.cny-base.declared.refusal.Refusal.TheVariants.{Edited, NoJob, Parent, StackEmpty}
use Rattle.rollback_stack.specs.cny-base.declared.stop.Stop.{Stop}
use Rattle.rollback_stack.specs.cny-base.declared.stop.Stop.TheVariants as stop
use Rattle.rollback_stack.specs.journal-log.Targets.{with_targets}
use Rattle.rollback_stack.specs.tree-disk.Disk.{DiskModel, HasRead, IsDisk}
use Rattle.rollback_stack.specs.tree-disk.Steps.{IsDiskStop}
use Rattle.rollback_stack.specs.tree-disk.Tree.{Tree}
use Rattle.tree_journal.specs.Apply.{IsAtRest}
use Rattle.rollback_stack.specs.cny-base.Reserved.{private_directory}
use Rattle.local_db.specs.declared.db.Db.{Db}
use Rattle.local_db.specs.Stores.{StoresIn}
use Rattle.local_db.specs.SystemState.{IsStackItem, StackItem, SystemState, newest}
use Rattle.local_db.specs.declared.format.Format.{Format}
use Rattle.local_db.specs.declared.format.Format.TheVariants.{Two}
use Rattle.local_db.proofs.Several.{rollbacks_system}
use Rattle.rollback_stack.specs.declared.undo.Back.{Back}
use Rattle.system_core.specs.RootWriting.{AreSettled, TakesRoot, IsPut, RestsInFormat}
use Rattle.rollback_stack.specs.Inverse.{IsBackRefusal, IsBackStop}
use Rattle.rollback_stack.proofs.Later.{read_as}
use Rattle.system_core.specs.RestoringAll.{AreRestored, AreUnedited, IsExceptionTo, RestoresTo}
use Rattle.system_core.specs.Rollback.{HasRollbackCause, MayRollBack}
use Rattle.system_core.specs.Several.{EndsTo, HasJob, HasStepTo, HasTakenBackTo, IsRefusalKindTo, IsRefusalTo, IsStepTo, RollsBackTo, StopsTo, jobs_below, jobs_to, paths_of_jobs, rolled_back_to}
use Rattle.system_core.proofs.Counting.{split_at}
use Rattle.system_core.proofs.Moving.{moved}
use Rattle.system_core.proofs.Restored.{left_alone, put_into}
use Rattle.system_core.proofs.Sequence.{after_list, after_tree, after_whole}
use Rattle.system_core.proofs.SteppingAll.{IsSystemStepTo, system_step_to, unfinished_to}
use Rattle.system_core.proofs.Held.{OneDatabase, one_held}
use Rattle.system_core.proofs.Migration.{OneRecord}
use Rattle.system_core.specs.Job.{db_of}
use Rattle.local_db.proofs.cny-base.Lists.{left_all as all_front, all_at as all_middle, nothing_in}

-- an error that is handed on
pub err_is : {T : Type 0} (r : Result T Stop) (e : Stop) → IsErrAnd r (λ s. s ≡ e) → r ≡ Err e
err_is (Ok x) e is = absurd is
err_is (Err s) e is = ap Err is

-- ---- what is restored

module _ (x : Tree) (s : SystemState) (stores : StoresIn Two x s) (number : ℕ) (has : HasJob s.stack number) (unedited : AreUnedited s number) where
  item_of : (newer : List StackItem) (o : StackItem) (olds : List StackItem) → s.stack ≡ newer ++ o ∷ olds → IsStackItem o
  item_of newer o olds stack = all_middle IsStackItem newer o olds (subst (All IsStackItem) stack stores.system.olds)

  exception_to : (why : Refusal) → IsRefusalTo s number why → IsExceptionTo s number why
  exception_to StackEmpty is = absurd (nothing_in has.0 (subst (λ (l : List StackItem). Contains l has.0) is has.1))
  exception_to (NoJob n) is = absurd (is.2 has)
  exception_to (Edited path) is = record {
    asked = is.asked;
    newer = is.newer;
    job = is.job;
    olds = is.olds;
    stack_is = is.stack_is;
    down_to = is.down_to;
    can = is.can;
    holds = put_into is.job (item_of is.newer is.job is.olds is.stack_is) _ (unedited is.newer is.job is.olds is.stack_is is.down_to is.can) path is.holds;
  }
  exception_to (Parent path) is = record {
    asked = is.asked;
    newer = is.newer;
    job = is.job;
    olds = is.olds;
    stack_is = is.stack_is;
    down_to = is.down_to;
    can = is.can;
    holds = left_alone is.job (item_of is.newer is.job is.olds is.stack_is) _ (unedited is.newer is.job is.olds is.stack_is is.down_to is.can)
        (rollbacks_system is.newer (is.job ∷ is.olds) s stores.system is.stack_is is.can).0.tree path is.holds;
  }
  exception_to _ is = absurd is

  pub restores_to_err : (left : Db) (y : Tree) (e : Stop) → EndsTo s number left (Err e) → RestoresTo s number left y (Err e)
  restores_to_err left y stop.Failed is = tt
  restores_to_err left y stop.Memory is = tt
  restores_to_err left y (stop.Refused why) is = exception_to why is
  restores_to_err left y (stop.Damaged path) is = is
  restores_to_err left y stop.FarFailed is = is
  restores_to_err left y (stop.FarDamaged path) is = is

-- the root that stores the system afterwards has what stood before the jobs
pub are_restored : (x y : Tree) (s : SystemState) (number : ℕ) (left : Db) → StoresIn Two x s → StoresIn Two y (rolled_back_to number s) → left ≡ db_of (rolled_back_to number s) → AreRestored (jobs_to number s.stack) s left y
are_restored x y s number left stores after is = record {
  each = λ q out. after.managed q out ∙ after_tree (jobs_to number s.stack) (jobs_below number s.stack) s items q;
  list = ap (λ (d : Db). d.installed) is ∙ after_list (jobs_to number s.stack) (jobs_below number s.stack) s;
  whole = λ follow q out. after.managed q out ∙ ap (λ (t : Tree). get t q) (after_whole (jobs_to number s.stack) (jobs_below number s.stack) s items follow);
}
  where
    items : All IsStackItem (jobs_to number s.stack)
    items = all_front IsStackItem (jobs_to number s.stack) (jobs_below number s.stack) (subst (All IsStackItem) (split_at number s.stack) stores.system.olds)

-- ---- the write set, put on the root

module _ {D : Type 0} (disk : DiskModel D) (laws : IsDisk disk) (one_db : OneDatabase) (one_record : OneRecord) (db : Db) (number : ℕ) (old mid new : D) (ready : MayRollBack disk db old) (step : Back)
    (run : HasRead disk old mid (IsStepTo (disk.reads old) db number step)) (early : disk.faults old ≤ disk.faults mid) (late : disk.faults mid ≤ disk.faults new) (w : Result (Unit {0}) Stop)
    (goes : (f g : Format) (s t : SystemState) → StoresIn f (disk.reads mid) s → AreSettled disk mid s → StoresIn g (with_targets step.puts (disk.reads mid)) t → TakesRoot disk g s t step.puts mid new w)
    (s : SystemState) (stores : StoresIn Two (disk.reads old) s) where
  to : IsSystemStepTo (disk.reads old) s number step
  to = system_step_to one_db one_record (disk.reads old) s stores db ready.holds (laws.reads_well_formed old) number step run.answer

  went : TakesRoot disk Two s (rolled_back_to number s) step.puts mid new w
  went = goes Two Two s (rolled_back_to number s) (subst (λ (x : Tree). StoresIn Two x s) (sym run.same.reads) stores) (λ q counts. run.same.unsynced q ∙ ready.synced q)
      (subst (λ (x : Tree). StoresIn Two (with_targets step.puts x) (rolled_back_to number s)) (sym run.same.reads) to.stored)

  pub failed_rolls_to : (e : Stop) → IsDiskStop e → RollsBackTo disk s number db old new (Err e)
  failed_rolls_to e is = record {
    ends = unfinished_to s number db e is;
    only = inr (to.job, to.can);
    moves = moved disk laws s db old ready stores run (rolled_back_to number s) (paths_of_jobs (jobs_to number s.stack)) step.puts new w went early late to.outside (Err e) tt;
  }

  pub failed_restores_to : HasJob s.stack number → AreUnedited s number → (e : Stop) → IsDiskStop e → RestoresTo s number db (disk.reads new) (Err e)
  failed_restores_to has unedited e is = restores_to_err (disk.reads old) s stores number has unedited db (disk.reads new) e (unfinished_to s number db e is)

  module _ (done : w ≡ Ok tt) where
    rests : RestsInFormat disk Two (rolled_back_to number s) new
    rests = subst (λ (r : Result (Unit {0}) Stop). OnOk r (RestsInFormat disk Two (rolled_back_to number s) new)) done went.rests

    pub done_rolls_to : (count : ℕ) → count + number ≡ db.newest + 1 → RollsBackTo disk s number step.db old new (Ok count)
    done_rolls_to count is = record {
      ends = record {
        job = to.job;
        can = to.can;
        count_is =
            let all = to.count_is in
            let same = newest_is in
            omega (arith, is, all, same);
        db_is = to.db_is;
      };
      only = inr (to.job, to.can);
      moves = moved disk laws s db old ready stores run (rolled_back_to number s) (paths_of_jobs (jobs_to number s.stack)) step.puts new w went early late to.outside (Ok count) rests;
    }
      where
        newest_is : db.newest ≡ newest s.stack
        newest_is = (one_held one_db (disk.reads old) db.installed s.installed db.oldest db.newest _ _ ready.holds stores.list).highs

    pub done_restores_to : (count : ℕ) → RestoresTo s number step.db (disk.reads new) (Ok count)
    done_restores_to count = are_restored (disk.reads old) (disk.reads new) s number step.db stores rests.stores to.db_is

-- ---- on each root

pub taken_back_to : {D : Type 0} (disk : DiskModel D) (db : Db) (number : ℕ) (old mid new : D) (step : Back) → HasRead disk old mid (IsStepTo (disk.reads old) db number step) → IsPut disk step.puts mid new
    → (count : ℕ) → count + number ≡ db.newest + 1 → HasTakenBackTo disk db step.db number old new count
taken_back_to disk db number old mid new step run put count is = record {
  step = step;
  step_is = run.answer;
  put = subst (λ (x : Tree). IsAtRest disk private_directory (with_targets step.puts x) new) run.same.reads put;
  count_is = is;
  db_is = refl;
}

pub stops_to : {D A : Type 0} (disk : DiskModel D) (db : Db) (number : ℕ) (old mid : D) (rose : Type 0) (e : Stop) → IsTrue disk.tells → HasRead disk old mid A → IsBackStop disk.tells (disk.reads old) db number rose e
    → StopsTo disk db number old mid e
stops_to disk db number old mid rose stop.Failed tells run is = inl (read_as run tt)
stops_to disk db number old mid rose stop.Memory tells run is = inl (read_as run tt)
stops_to disk db number old mid rose (stop.Refused why) tells run is = record { answer = is; same = run.same; time = run.time }
stops_to disk db number old mid rose (stop.Damaged path) tells run is = record { answer = is tells; same = run.same; time = run.time }
stops_to disk db number old mid rose stop.FarFailed tells run is = is
stops_to disk db number old mid rose (stop.FarDamaged path) tells run is = is

pub written_to : {D : Type 0} (disk : DiskModel D) (db : Db) (number : ℕ) (old new : D) (e : Stop) → HasStepTo (disk.reads old) db number → IsDiskStop e → StopsTo disk db number old new e
written_to disk db number old new stop.Failed has is = inr has
written_to disk db number old new stop.Memory has is = inr has
written_to disk db number old new (stop.Refused why) has is = absurd is
written_to disk db number old new (stop.Damaged path) has is = absurd is
written_to disk db number old new stop.FarFailed has is = is
written_to disk db number old new (stop.FarDamaged path) has is = is

kind_to : (told : Bool) (x : Tree) (db : Db) (number : ℕ) (why : Refusal) → IsBackRefusal told x db number why → IsRefusalKindTo db number why
kind_to told x db number StackEmpty is = is
kind_to told x db number (NoJob n) is = is
kind_to told x db number (Edited path) is = is.0
kind_to told x db number (Parent path) is = is.0
kind_to told x db number _ is = absurd is.0

pub cause_to : (told : Bool) (x : Tree) (db : Db) (number : ℕ) (rose : Type 0) (e : Stop) → IsBackStop told x db number rose e → HasRollbackCause (IsRefusalKindTo db number) rose e
cause_to told x db number rose stop.Failed is = is
cause_to told x db number rose stop.Memory is = tt
cause_to told x db number rose (stop.Refused why) is = kind_to told x db number why is
cause_to told x db number rose (stop.Damaged path) is = tt
cause_to told x db number rose stop.FarFailed is = is
cause_to told x db number rose (stop.FarDamaged path) is = is

pub cause_written : (IsKind : Refusal → Type 0) (rose : Type 0) (e : Stop) → IsDiskStop e → (e ≡ stop.Failed → rose) → HasRollbackCause IsKind rose e
cause_written IsKind rose stop.Failed is failed = failed refl
cause_written IsKind rose stop.Memory is failed = tt
cause_written IsKind rose (stop.Refused why) is failed = absurd is
cause_written IsKind rose (stop.Damaged path) is failed = tt
cause_written IsKind rose stop.FarFailed is failed = is
cause_written IsKind rose (stop.FarDamaged path) is failed = is
