-- Runs that only read a disk, one behind the other.
use Rattle.std.proofs.Common.{◌≡◌, Result, Ok, Err, refl, sym, subst}
use Rattle.std.specs.Prelude.{IsErrAnd, OnOk}
use Rattle.tree_disk.specs.cny-base.Count.{Rose}
use Rattle.tree_disk.specs.cny-base.declared.refusal.Refusal.{Refusal}
use Rattle.tree_disk.specs.cny-base.declared.stop.Stop.{Stop}
use Rattle.tree_disk.specs.cny-base.declared.stop.Stop.TheVariants.{Refused, Memory, Failed, Damaged, FarFailed, FarDamaged}
use Rattle.tree_disk.specs.Disk.{DiskModel, IsDisk}
use Rattle.tree_disk.specs.Steps.{IsDiskStop, Tests}
use Rattle.tree_disk.specs.Tree.{Tree}
use Rattle.tree_disk.proofs.StepLaws.{tests_answer, tests_stop, tests_memory, tests_then}
use Rattle.cny_pack.specs.Halts.{IsHalt, IsLookStop, Never}
use Rattle.cny_pack.specs.Stops.{halt_of_step, stop_of_step}
use Rattle.cny_pack.specs.declared.stop.Halt.{Halt}
use Rattle.cny_pack.specs.Walk.{OnlyLooks}

never : {Y : Type 0} (y : Y) (refusal : Refusal) (A : Type 0) → (let x : Result Y Refusal = Ok y in x ≡ Err refusal) → A
never y refusal A is = absurd (cc is)

-- what holds at `Ok`, said otherwise
pub on_ok : {X E A B : Type 0} (r : Result X E) → (A → B) → OnOk r A → OnOk r B
on_ok (Ok x) f a = f a
on_ok (Err e) f a = a

module _ {D : Type 0} {disk : DiskModel D} where
  -- a step that ended well
  pub looked : {X Y Z : Type 0} {view : X → Y} {value : Tree → Y} {old new : D} {x : X} (z : Z) → Tests disk view (λ tree. Ok (value tree)) old new (Ok x) → OnlyLooks disk old new (let r : Result Z Stop = Ok z in r)
  looked z run = tests_answer run (λ tells. refl)

  -- a step that stopped
  pub look_stops : {X Y Z : Type 0} {view : X → Y} {value : Tree → Y} {old new : D} {e : Stop} {r : Result Z Stop} → Tests disk view (λ tree. Ok (value tree)) old new (Err e) → IsErrAnd r (λ s. s ≡ e)
      → OnlyLooks disk old new r
  look_stops {value = value} {old = old} run is = tests_stop run is (λ tells refusal so. never (value (disk.reads old)) refusal _ so)

  -- one run behind another that ended well
  pub look_on : IsDisk disk → {X Y Z : Type 0} {view : X → Y} {value : Tree → Y} {old mid new : D} {x : X} {r : Result Z Stop} → Tests disk view (λ tree. Ok (value tree)) old mid (Ok x) → OnlyLooks disk mid new r
      → OnlyLooks disk old new r
  look_on laws first next = tests_then laws first next (λ tells. refl)

  -- want of memory behind one that ended well
  pub look_memory : {X Y Z : Type 0} {view : X → Y} {value : Tree → Y} {old new : D} {x : X} {r : Result Z Stop} → Tests disk view (λ tree. Ok (value tree)) old new (Ok x) → IsErrAnd r (λ s. s ≡ Memory)
      → OnlyLooks disk old new r
  look_memory run is = tests_memory run is

-- ---- a step that stopped, at what is made of it

module _ {D X Y : Type 0} {disk : DiskModel D} {view : X → Y} {test : Tree → Result Y Refusal} {old new : D} where
  pub step_halts : (e : Stop) → IsDiskStop e → Tests disk view test old new (Err e) → IsHalt Never (Rose (disk.faults old) (disk.faults new)) ⊥ (halt_of_step e)
  step_halts Failed is run = run.found
  step_halts Memory is run = tt
  step_halts (Refused refusal) is run = absurd is
  step_halts (Damaged path) is run = absurd is
  step_halts FarFailed is run = absurd is
  step_halts (FarDamaged path) is run = absurd is

  pub halted : (e : Stop) (halt : Halt) → halt ≡ halt_of_step e → IsDiskStop e → Tests disk view test old new (Err e) → IsHalt Never (Rose (disk.faults old) (disk.faults new)) ⊥ halt
  halted e halt is stops run = subst (IsHalt Never (Rose (disk.faults old) (disk.faults new)) ⊥) (sym is) (step_halts e stops run)

  pub step_stops : (e : Stop) → IsDiskStop e → Tests disk view test old new (Err e) → IsLookStop (Rose (disk.faults old) (disk.faults new)) (stop_of_step e)
  step_stops Failed is run = run.found
  step_stops Memory is run = tt
  step_stops (Refused refusal) is run = absurd is
  step_stops (Damaged path) is run = absurd is
  step_stops FarFailed is run = absurd is
  step_stops (FarDamaged path) is run = absurd is
