-- What a job answers on every disk, from the tests on.
use Rattle.std.proofs.Common.{◌≡◌, ◌⊎◌, ⊎_elim, List, Result, Ok, Err, IsErrAnd, refl, sym, subst, arith}
use Rattle.std.specs.Prelude.{IfErr, IsTrue, Option, Some, None, ℕ}
use Rattle.rollback_stack.specs.cny-base.Reserved.{is_reserved}
use Rattle.rollback_stack.specs.cny-base.Stop.{stop_of_fault}
use Rattle.rollback_stack.specs.cny-base.declared.refusal.Fault.{Fault}
use Rattle.rollback_stack.specs.cny-base.declared.refusal.Fault.TheVariants as fault
use Rattle.rollback_stack.specs.cny-base.declared.refusal.Refusal.{Refusal}
use Rattle.rollback_stack.specs.cny-base.declared.refusal.Refusal.TheVariants as refusal
use Rattle.rollback_stack.specs.cny-base.declared.stop.Stop.{Stop}
use Rattle.rollback_stack.specs.cny-base.declared.stop.Stop.TheVariants.{Refused, Memory, Failed, Damaged, FarFailed, FarDamaged}
use Rattle.rollback_stack.specs.trove-stream.declared.parts.TroveParts.{TroveParts}
use Rattle.rollback_stack.specs.tree-disk.Disk.{DiskModel, HasRead}
use Rattle.rollback_stack.specs.content-store.Contents.{ContentsModel}
use Rattle.rollback_stack.specs.journal-log.declared.put.Put.{Put}
use Rattle.rollback_stack.specs.journal-log.Targets.{with_targets}
use Rattle.rollback_stack.specs.tree-disk.Tree.{Tree, AgreesOutside}
use Rattle.job_targets.specs.declared.entry.Entry.{Entry}
use Rattle.conflict_plan.specs.Plan.{IsPlanRefusal, IsPlanStop, RefusesShared, TellsShared}
use Rattle.dep_closure.specs.Closed.{IsClosed, IsUnmetOrMemory}
use Rattle.update_job.specs.declared.comparing.Change.{Change}
use Rattle.update_job.specs.Changes.{AreChanges}
use Rattle.job_targets.specs.declared.targets.Targets.{Targets}
use Rattle.job_targets.specs.Gathering.{Gathers}
use Rattle.job_targets.specs.Outcome.{IsTargetRefusal, IsTargetStop}
use Rattle.system_core.specs.Last.{db_after, IsRefusedLast, PassesLast, too_large, too_many}
use Rattle.system_core.specs.JobWriting.{AnswersJob, CollidesWriting, HasTargets, IsJobStop, MovesTrees}
use Rattle.local_db.specs.declared.db.Db.{Db}
use Rattle.local_db.specs.Installed.{IsInstalled}
use Rattle.system_core.specs.declared.done.Done.{Done}
use Rattle.system_core.specs.Answers.{AnswersCall, AnswersRefusal, DoneMoves, HasList, IsTestAnswer, IsJobTestStop, PassesListTests, collided, last, no_list, untested}
use Rattle.system_core.specs.Job.{IsTestRefusal, IsTested, Sources}
use Rattle.system_core.specs.Lists.{ListStep, to_list}
use Rattle.rollback_stack.specs.change-set.Contents.{IfRefused}
use Rattle.system_core.specs.Something.{LacksSomething}
use Rattle.system_core.proofs.EndingAll.{err_is}
use Rattle.rollback_stack.proofs.Later.{read_as}
use Rattle.local_db.proofs.cny-base.Faults.{passed_on}

-- ---- the tests

module _ (list : List TroveParts) where
  pub closed_answer : (e : Fault) → IsUnmetOrMemory list e → IsJobTestStop list (stop_of_fault e)
  closed_answer (fault.Refused why) is = subst (IsTestAnswer list) (sym is.3) (is.0, is.1, is.2, refl)
  closed_answer fault.Memory is = tt

  plan_refusal : (why : Refusal) → IsClosed list → IsPlanRefusal why → RefusesShared list why → IsTestAnswer list why
  plan_refusal (refusal.Owned path first second) closed kind tells = (closed, tells)
  plan_refusal (refusal.Unowned path) closed kind tells = record { closed = closed; unshared = tells }
  plan_refusal (refusal.Edited path) closed kind tells = record { closed = closed; unshared = tells }
  plan_refusal (refusal.Parent path) closed kind tells = record { closed = closed; unshared = tells }
  plan_refusal _ closed kind tells = absurd kind

  pub plan_answer : (e : Stop) → IsClosed list → IsPlanStop e → TellsShared list (Err e) → IsJobTestStop list e
  plan_answer (Refused why) closed kind tells = plan_refusal why closed kind tells
  plan_answer Memory closed kind tells = tt
  plan_answer Failed closed kind tells = record { closed = closed; unshared = tells }
  plan_answer (Damaged path) closed kind tells = absurd kind
  plan_answer FarFailed closed kind tells = absurd kind
  plan_answer (FarDamaged path) closed kind tells = absurd kind

  target_refusal : (why : Refusal) → PassesListTests list → IsTargetRefusal why → IsTestAnswer list why
  target_refusal (refusal.MissingContent name) passes kind = passes
  target_refusal (refusal.TooLarge what size) passes kind = (kind, passes)
  target_refusal (refusal.Collision name at) passes kind = passes
  target_refusal _ passes kind = absurd kind

  pub target_answer : (e : Stop) → PassesListTests list → IsTargetStop e → IsJobTestStop list e
  target_answer (Refused why) passes kind = target_refusal why passes kind
  target_answer Memory passes kind = tt
  target_answer Failed passes kind = passes
  target_answer (Damaged path) passes kind = absurd kind
  target_answer FarFailed passes kind = passes
  target_answer (FarDamaged path) passes kind = passes

  pub lack_answer : (es : List Entry) (e : Fault) → PassesListTests list → IfRefused (LacksSomething es) e → IsJobTestStop list (stop_of_fault e)
  lack_answer es (fault.Refused why) passes lacks = subst (IsTestAnswer list) (sym lacks.refusal_is) passes
  lack_answer es fault.Memory passes lacks = tt

  pub stop_answer : {T : Type 0} (r : Result T Stop) (e : Stop) → IsErrAnd r (λ s. s ≡ e) → IsJobTestStop list e → IfErr r (IsJobTestStop list)
  stop_answer r e is stops = passed_on (IsJobTestStop list) e r stops is

-- ---- a job with a list after it

not_both : (db : Db) (list : List TroveParts) (puts : List Put) (why : Refusal) → IsRefusedLast db list puts why → PassesLast db list puts → ⊥
not_both db list puts why (too_large large is) passed = let short = passed.short in omega (arith, large, short)
not_both db list puts why (too_many short some full is) passed = passed.room full

module _ {D C : Type 0} {disk : DiskModel D} {contents : ContentsModel C} (from : Sources) (db : Db) (list : List TroveParts) {old mid : D} {far far' : C} where
  -- the tests stopped
  pub tests_answer : (now : Db) (e : Stop) → Gathers disk contents (IsTested from db.installed list) (IsTestRefusal from db.installed list) old mid far far' (Err e) → IsJobTestStop list e
      → AnswersCall disk from (to_list list) db old mid now (Err e)
  tests_answer now (Refused why) run stops = untested list refl stops (λ tells. read_as (run.same tells) (run.ends tells))
  tests_answer now Memory run stops = tt
  tests_answer now Failed run stops = (list, refl, stops)
  tests_answer now (Damaged path) run stops = absurd stops
  tests_answer now FarFailed run stops = ((list, refl, stops), run.same)
  tests_answer now (FarDamaged path) run stops = ((list, refl, stops), run.same)

  module _ (made : Targets) (run : Gathers disk contents (IsTested from db.installed list) (IsTestRefusal from db.installed list) old mid far far' (Ok made)) (passes : PassesListTests list) where
    refused_last : {new : D} (tested : (new ≡ mid) ⊎ PassesLast db list made.puts) (why : Refusal) → IsRefusedLast db list made.puts why → AnswersRefusal disk from (to_list list) db old new why
    refused_last {new = new} tested why refused =
        last list refl passes made.puts refused (λ tells. read_as
        (⊎_elim
        (λ (same : new ≡ mid). subst (λ (d : D). HasRead disk old d (Unit {0})) (sym same) (run.same tells))
        (λ (passed : PassesLast db list made.puts). absurd (not_both db list made.puts why refused passed))
        tested)
        (made, refl, run.ends tells))

    -- the writing stopped
    pub write_answer : {new : D} (now : Db) (rose : Type 0) (e : Stop) → IsJobStop disk.tells rose db list made.puts e → (new ≡ mid) ⊎ PassesLast db list made.puts → AnswersCall disk from (to_list list) db old new now (Err e)
    write_answer now rose (Refused why) stops tested = ⊎_elim
        (λ (refused : IsRefusedLast db list made.puts why). refused_last tested why refused)
        (λ (collides : CollidesWriting disk.tells db list made.puts why). collided list refl passes made.puts collides)
        stops
    write_answer now rose Memory stops tested = tt
    write_answer now rose Failed stops tested = (list, refl, passes)
    write_answer now rose (Damaged path) stops tested = stops
    write_answer now rose FarFailed stops tested = absurd stops
    write_answer now rose (FarDamaged path) stops tested = absurd stops

    pub done_answer : (new : D) (now : Db) (changes : List Change) (number : Option ℕ) → IsInstalled list → AreChanges db.installed list changes → AnswersJob db list made.puts now (Ok number)
        → (IsTrue disk.tells → HasTargets disk made.puts mid new) → (new ≡ mid) ⊎ PassesLast db list made.puts → (IsTrue disk.tells → MovesTrees disk made.puts db (db_after db list) old new)
        → AnswersCall disk from (to_list list) db old new now (Ok (record { changes = changes; number = number }))
    done_answer new now changes number rules are answers stand tested goes = record {
      list = list;
      leads = refl;
      closed = passes.closed;
      rules = rules;
      puts = made.puts;
      answers = answers;
      changes = are;
      tested = λ tells. (made, refl, run.ends tells);
      moments = λ tells. by number answers (run.same tells) (goes tells);
      outer = λ tells. subst (λ (t : Tree). AgreesOutside is_reserved (disk.reads new) (with_targets made.puts t)) (run.same tells).same.reads (stand tells);
    }
      where
        by : (number : Option ℕ) → AnswersJob db list made.puts now (Ok number) → HasRead disk old mid (Unit {0}) → MovesTrees disk made.puts db (db_after db list) old new → DoneMoves disk made.puts db list old new number
        by None answers read goes = ⊎_elim
            (λ (same : new ≡ mid). subst (λ (d : D). HasRead disk old d (Unit {0})) (sym same) read)
            (λ (passed : PassesLast db list made.puts). absurd (passed.something answers.1))
            tested
        by (Some number) answers read goes = goes

-- ---- from there to the call that leads to the list

pub led : (step : ListStep) (list l : List TroveParts) → step.leads list → l ≡ list → step.leads l
led step list l leads is = subst step.leads (sym is) leads

module _ {D : Type 0} (disk : DiskModel D) (from : Sources) (step : ListStep) (db : Db) (old new : D) (now : Db) where
  -- the stop is handed on
  pub answer_stop : (e : Stop) (r : Result Done Stop) → IsErrAnd r (λ x. x ≡ e) → AnswersCall disk from step db old new now (Err e) → AnswersCall disk from step db old new now r
  answer_stop e r is answers = subst (AnswersCall disk from step db old new now) (sym (err_is r e is)) answers

  module _ (list : List TroveParts) (leads : step.leads list) where
    refusal_by : (why : Refusal) → AnswersRefusal disk from (to_list list) db old new why → AnswersRefusal disk from step db old new why
    refusal_by why (no_list never same) = absurd never
    refusal_by why (untested l is answer read) = untested l (led step list l leads is) answer read
    refusal_by why (last l is passes puts refused read) = last l (led step list l leads is) passes puts refused read
    refusal_by why (collided l is passes puts collides) = collided l (led step list l leads is) passes puts collides

    list_by : HasList (to_list list) → HasList step
    list_by (l, is, passes) = (l, led step list l leads is, passes)

    pub answer_by : (r : Result Done Stop) → AnswersCall disk from (to_list list) db old new now r → AnswersCall disk from step db old new now r
    answer_by (Ok made) is = record {
      list = is.list;
      leads = led step list is.list leads is.leads;
      closed = is.closed;
      rules = is.rules;
      puts = is.puts;
      answers = is.answers;
      changes = is.changes;
      tested = is.tested;
      outer = is.outer;
      moments = is.moments;
    }
    answer_by (Err (Refused why)) is = refusal_by why is
    answer_by (Err Memory) is = tt
    answer_by (Err Failed) is = list_by is
    answer_by (Err (Damaged path)) is = is
    answer_by (Err FarFailed) is = (list_by is.0, is.1)
    answer_by (Err (FarDamaged path)) is = (list_by is.0, is.1)

    pub answer_stop_by : (e : Stop) (r : Result Done Stop) → IsErrAnd r (λ x. x ≡ e) → AnswersCall disk from (to_list list) db old new now (Err e) → AnswersCall disk from step db old new now r
    answer_stop_by e r is answers = answer_stop e r is (answer_by (Err e) answers)

-- no list follows
pub list_answer : {D : Type 0} (disk : DiskModel D) (from : Sources) (step : ListStep) (db : Db) (d : D) (now : Db) (e : Fault) (r : Result Done Stop) → IsErrAnd r (λ x. x ≡ stop_of_fault e)
    → ((why : Refusal) → e ≡ fault.Refused why → step.refuses why) → AnswersCall disk from step db d d now r
list_answer disk from step db d now e r is refuses = answer_stop disk from step db d d now (stop_of_fault e) r is (by e refuses)
  where
    by : (e : Fault) → ((why : Refusal) → e ≡ fault.Refused why → step.refuses why) → AnswersCall disk from step db d d now (Err (stop_of_fault e))
    by (fault.Refused why) refuses = no_list (refuses why refl) refl
    by fault.Memory refuses = tt
