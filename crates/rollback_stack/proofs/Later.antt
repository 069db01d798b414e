-- Reads of a disk, one after another.
use Rattle.std.proofs.Common.{Bool, Result, Ok, Err}
use Rattle.std.specs.Prelude.{IfOk, IsErrAnd, IsTrue}
use Rattle.job_targets.specs.cny-base.declared.stop.Stop.{Stop}
use Rattle.job_targets.specs.cny-base.declared.stop.Stop.TheVariants as stop
use Rattle.job_targets.specs.tree-disk.Disk.{DiskModel, HasRead, IsDisk}
use Rattle.job_targets.specs.tree-disk.Moments.{same_on, same_start, time_on, time_start}
use Rattle.job_targets.specs.tree-disk.Tree.{Name}
use Rattle.rollback_stack.specs.JobReading.{IsReadStop}

no_ok : {T E : Type 0} (P : T → Type 0) (Q : E → Type 0) (r : Result T E) → IsErrAnd r Q → IfOk r P
no_ok P Q (Ok x) is = absurd is
no_ok P Q (Err s) is = tt

pub read_as : {D : Type 0} {disk : DiskModel D} {A B : Type 0} {old new : D} → HasRead disk old new A → B → HasRead disk old new B
read_as run answer = record { answer = answer; same = run.same; time = run.time }

module _ {D : Type 0} {disk : DiskModel D} (laws : IsDisk disk) where
  pub read_start : (d : D) → HasRead disk d d (Unit {0})
  read_start d = record { answer = tt; same = same_start disk d; time = time_start laws d }

  pub read_then : {A B : Type 0} {old mid new : D} → HasRead disk old mid A → HasRead disk mid new B → HasRead disk old new B
  read_then first then = record { answer = then.answer; same = same_on first.same then.same; time = time_on laws first.same first.time then.time }

  -- the second read stopped
  pub read_stopped : {A B T E : Type 0} {old mid new : D} (P : T → Type 0) (Q : E → Type 0) (r : Result T E) → HasRead disk old mid A → HasRead disk mid new B → IsErrAnd r Q → HasRead disk old new (IfOk r P)
  read_stopped P Q r first then is = read_as (read_then first then) (no_ok P Q r is)

-- a stop of a later read
pub read_stop_then : (told : Bool) (damaged more : Name → Type 0) (rose later : Type 0) (e : Stop) → (IsTrue told → (path : Name) → damaged path → more path) → (rose → later)
    → IsReadStop told damaged rose e → IsReadStop told more later e
read_stop_then told damaged more rose later stop.Failed to rises is = rises is
read_stop_then told damaged more rose later stop.Memory to rises is = tt
read_stop_then told damaged more rose later (stop.Damaged path) to rises is = λ tells. to tells path (is tells)
read_stop_then told damaged more rose later (stop.Refused why) to rises is = is
read_stop_then told damaged more rose later stop.FarFailed to rises is = is
read_stop_then told damaged more rose later (stop.FarDamaged path) to rises is = is
