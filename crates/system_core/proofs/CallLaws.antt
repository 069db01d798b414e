-- From the job with a list after it to the call that leads to the list.
use Rattle.std.proofs.Common.{◌≡◌, ⊎_elim, ℕ, List, Contains, None, Result, Ok, Err, IsErrAnd, refl, sym, subst, arith}
use Rattle.std.specs.Prelude.{IfErr}
use Rattle.std.proofs.lemmas.List.Elements.{All-contains, All-contains_itself, All-weaker}
use Rattle.rollback_stack.specs.cny-base.Count.{Rose}
use Rattle.rollback_stack.specs.cny-base.Stop.{stop_of_fault}
use Rattle.rollback_stack.specs.cny-base.declared.refusal.Fault.{Fault}
use Rattle.rollback_stack.specs.cny-base.declared.refusal.Fault.TheVariants as fault
use Rattle.rollback_stack.specs.cny-base.declared.refusal.Refusal.{Refusal}
use Rattle.rollback_stack.specs.cny-base.declared.stop.Stop.{Stop}
use Rattle.rollback_stack.specs.cny-base.declared.stop.Stop.TheVariants.{Refused, Memory, Failed, Damaged, FarFailed, FarDamaged}
use Rattle.rollback_stack.specs.content-store.Contents.{ContentsModel, empty_contents}
use Rattle.rollback_stack.specs.trove-stream.Forbidden.{first_forbidden}
use Rattle.rollback_stack.specs.trove-stream.declared.parts.TroveParts.{TroveParts}
use Rattle.rollback_stack.specs.tree-disk.Disk.{DiskModel, IsDisk}
use Rattle.rollback_stack.specs.tree-disk.Moments.{same_start, time_start}
use Rattle.local_db.specs.declared.db.Db.{Db}
use Rattle.update_job.specs.Lists.{IsErased, IsOld, IsUpdated, Stays}
use Rattle.local_db.specs.SystemState.{SystemState}
use Rattle.system_core.specs.declared.done.Done.{Done}
use Rattle.system_core.specs.Job.{Sources}
use Rattle.system_core.specs.Lists.{AllPathsAllowed, ListStep, to_list}
use Rattle.system_core.specs.Steps.{StepEnds, HasStepCause, HasOwnCause, StopsOnTheWay, IsRefusal, no_job, no_list, reading, writing}
use Rattle.local_db.proofs.cny-base.Lists.{contains_at}
use Rattle.system_core.proofs.EndingAll.{err_is}
use Rattle.system_core.proofs.AnswerLaws.{led}
use Rattle.rollback_stack.proofs.Later.{read_as}
use Rattle.local_db.proofs.cny-base.Faults.{passed_on}

-- ---- lists that may be

abbrev IsAllowed : TroveParts → Type 0
IsAllowed t = first_forbidden t.files ≡ None

stays_allowed : (list : List TroveParts) (IsNamed : List ℕ → Type 0) (t : TroveParts) → AllPathsAllowed list → Stays list IsNamed t → IsAllowed t
stays_allowed list IsNamed t allowed stays = All-contains IsAllowed list t allowed (contains_at list stays.place t stays.there)

-- what an update leads to records nothing but what the lists before it did
pub updated_allowed : (installed come list : List TroveParts) → AllPathsAllowed installed → AllPathsAllowed come → IsUpdated installed come list → AllPathsAllowed list
updated_allowed installed come list old fresh is =
    All-weaker (Contains list) IsAllowed
    (λ t among. ⊎_elim
    (λ (new : Contains come t). All-contains IsAllowed come t fresh new)
    (λ (was : IsOld installed come t). stays_allowed installed _ t old was.stays)
    (is.from t among))
    list (All-contains_itself list)

pub erased_allowed : (installed : List TroveParts) (names : List (List ℕ)) (list : List TroveParts) → AllPathsAllowed installed → IsErased installed names list → AllPathsAllowed list
erased_allowed installed names list old is =
    All-weaker (Contains list) IsAllowed (λ t among. stays_allowed installed _ t old (is.stays t among)) list (All-contains_itself list)

-- ---- how a call ends

refusal_by : (from : Sources) (step : ListStep) (s : SystemState) (list : List TroveParts) → step.leads list → (why : Refusal) → IsRefusal from (to_list list) s why → IsRefusal from step s why
refusal_by from step s list leads why (no_list never) = absurd never
refusal_by from step s list leads why (no_job l is h) = no_job l (led step list l leads is) h

module _ {D : Type 0} (disk : DiskModel D) (from : Sources) (step : ListStep) (s : SystemState) (old new : D) (db : Db) (list : List TroveParts) (leads : step.leads list) where
  way_by : (e : Stop) → StopsOnTheWay disk from (to_list list) s old new e → StopsOnTheWay disk from step s old new e
  way_by e (reading read) = reading read
  way_by e (writing l is puts passes last changes are goes) = writing l (led step list l leads is) puts passes last changes are goes

  pub ends_by : (r : Result Done Stop) → StepEnds disk from (to_list list) s old new db r → StepEnds disk from step s old new db r
  ends_by (Ok made) is = record { list = is.list; leads = led step list is.list leads is.leads; puts = is.puts; passes = is.passes; ends = is.ends; changes = is.changes }
  ends_by (Err (Refused why)) is = read_as is (refusal_by from step s list leads why is.answer)
  ends_by (Err Memory) is = way_by Memory is
  ends_by (Err Failed) is = way_by Failed is
  ends_by (Err (Damaged path)) is = is
  ends_by (Err FarFailed) is = is
  ends_by (Err (FarDamaged path)) is = is

  pub ends_stop : (e : Stop) (r : Result Done Stop) → IsErrAnd r (λ x. x ≡ e) → StepEnds disk from (to_list list) s old new db (Err e) → StepEnds disk from step s old new db r
  ends_stop e r is ends = subst (StepEnds disk from step s old new db) (sym (err_is r e is)) (ends_by (Err e) ends)

module _ {D : Type 0} {disk : DiskModel D} (from : Sources) (step : ListStep) (s : SystemState) where
  -- no list follows, and no call was made
  pub list_stop : (laws : IsDisk disk) (d : D) (db : Db) (e : Fault) (r : Result Done Stop) → IsErrAnd r (λ x. x ≡ stop_of_fault e) → ((why : Refusal) → e ≡ fault.Refused why → step.refuses why)
      → StepEnds disk from step s d d db r
  list_stop laws d db e r is refuses = subst (StepEnds disk from step s d d db) (sym (err_is r (stop_of_fault e) is)) (by e refuses)
    where
      by : (e : Fault) → ((why : Refusal) → e ≡ fault.Refused why → step.refuses why) → StepEnds disk from step s d d db (Err (stop_of_fault e))
      by (fault.Refused why) refuses = record { answer = no_list (refuses why refl); same = same_start disk d; time = time_start laws d }
      by fault.Memory refuses = reading (record { answer = tt; same = same_start disk d; time = time_start laws d })

-- ---- why it stops

pub fault_cause : {C : Type 0} (contents : ContentsModel C) (far far' : C) (rose : Type 0) (e : Fault) → HasStepCause contents far far' rose (stop_of_fault e)
fault_cause contents far far' rose (fault.Refused why) = tt
fault_cause contents far far' rose fault.Memory = tt

pub own_fault_cause : (rose : Type 0) (e : Fault) → HasOwnCause rose (stop_of_fault e)
own_fault_cause rose (fault.Refused why) = tt
own_fault_cause rose fault.Memory = tt

pub no_rise : Rose 0 0 → ⊥
no_rise h = omega (arith, h)

-- a source without contents never fails, and nothing of it is damaged
pub own_cause : {C : Type 0} (far far' : C) (rose : Type 0) (e : Stop) → HasStepCause (empty_contents {C = C}) far far' rose e → HasOwnCause rose e
own_cause far far' rose (Refused why) cause = tt
own_cause far far' rose Memory cause = tt
own_cause far far' rose Failed cause = cause
own_cause far far' rose (Damaged path) cause = cause
own_cause far far' rose FarFailed cause = no_rise cause
own_cause far far' rose (FarDamaged path) cause = cause.damaged refl

pub own_cause_of : {T : Type 0} (rose : Type 0) (e : Stop) (r : Result T Stop) → IsErrAnd r (λ x. x ≡ e) → HasOwnCause rose e → IfErr r (HasOwnCause rose)
own_cause_of rose e r is cause = passed_on (HasOwnCause rose) e r cause is
