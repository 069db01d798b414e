-- A committed content is read, and then one that comes; and what is put once it was read.
use Rattle.std.proofs.Common.{◌≡◌, ℕ, ◌≤◌, Bool, IsTrue, List, Option, Some, None, Result, Ok, Err, IsErrAnd, subst, sym, arith}
use Rattle.repo_load.specs.cny-base.Count.{Rose}
use Rattle.repo_load.specs.cny-base.declared.refusal.Refusal.{Refusal}
use Rattle.repo_load.specs.cny-base.declared.stop.Stop.{Stop}
use Rattle.repo_load.specs.cny-base.declared.stop.Stop.TheVariants.{Refused, Memory, Failed, Damaged, FarFailed, FarDamaged}
use Rattle.repo_load.specs.tree-disk.Tree.{Name, Tree}
use Rattle.repo_load.specs.tree-disk.Disk.{DiskModel, HasRead, IsDisk}
use Rattle.repo_load.specs.tree-disk.Confined.{Confined}
use Rattle.repo_load.specs.tree-disk.Moments.{same_on, time_on}
use Rattle.repo_load.specs.tree-disk.Steps.{Found, IsDiskStop, Tests}
use Rattle.repo_load.proofs.tree-disk.ConfinedLaws.{confined_read, confined_then}
use Rattle.repo_load.proofs.tree-disk.Moments.{rose_before}
use Rattle.repo_load.specs.Looks.{Ends, Looks}
use Rattle.tree_journal.specs.Preparing.{EndsWith, Prepares, StopsBefore}
use Rattle.repository.specs.Order.{StopsAs}
use Rattle.repository.specs.Verdict.{CheckEnds, Checks}

-- ---- stops

-- the reading of a committed content stopped
look_ends : {X : Type 0} (told : Bool) (P : X → Type 0) (Q : Name → Type 0) (o : Option Refusal) (e : Stop) (r : Result (Unit {0}) Stop) (a b : ℕ) → IsErrAnd r (λ s. s ≡ e) → Ends told P Q (Err e) a b → CheckEnds told o Q r a b
look_ends told P Q o e (Ok x) a b is ends = absurd is
look_ends told P Q o e (Err s) a b is ends = subst (λ x. CheckEnds told o Q (Err x) a b) (sym is) (by e ends)
  where
    by : (e : Stop) → Ends told P Q (Err e) a b → CheckEnds told o Q (Err e) a b
    by (Refused refusal) ends = absurd ends
    by (Damaged path) ends = ends
    by Failed ends = ends
    by Memory ends = tt
    by FarFailed ends = absurd ends
    by (FarDamaged path) ends = absurd ends

pub look_stopped : {D X : Type 0} {disk : DiskModel D} {P : Tree → X → Type 0} {Q : Tree → Name → Type 0} {goal : Tree → Option Refusal} {old new : D} {r : Result (Unit {0}) Stop} (e : Stop) → Looks disk P Q old new (Err e) → IsErrAnd r (λ s. s ≡ e) → Checks disk goal Q old new r
look_stopped {disk = disk} {P = P} {Q = Q} {goal = goal} {old = old} {new = new} {r = r} e looks is = record {
  later = looks.later;
  same = looks.same;
  ends = look_ends disk.tells (P (disk.reads old)) (Q (disk.reads old)) (goal (disk.reads old)) e r (disk.faults old) (disk.faults new) is looks.ends;
}

-- the reading of one that comes stopped
pub read_ends : {X Y : Type 0} (view : X → Y) (told : Bool) (expected : Result Y Refusal) (Q : Name → Type 0) (o : Option Refusal) (e : Stop) (r : Result (Unit {0}) Stop) (a b c : ℕ) → IsErrAnd r (λ s. s ≡ e) → IsDiskStop e → a ≤ b
    → Found view told expected (Err e) b c → CheckEnds told o Q r a c
read_ends view told expected Q o e (Ok x) a b c is stop le found = absurd is
read_ends view told expected Q o e (Err s) a b c is stop le found = subst (λ x. CheckEnds told o Q (Err x) a c) (sym is) (by e stop found)
  where
    by : (e : Stop) → IsDiskStop e → Found view told expected (Err e) b c → CheckEnds told o Q (Err e) a c
    by (Refused refusal) stop found = absurd stop
    by (Damaged path) stop found = absurd stop
    by Failed stop found = rose_before a b c le found
    by Memory stop found = tt
    by FarFailed stop found = absurd stop
    by (FarDamaged path) stop found = absurd stop

pub disk_stop : (b : Option Stop) (e : Stop) (r : Result (Unit {0}) Stop) → IsErrAnd r (λ s. s ≡ e) → IsDiskStop e → StopsAs b r
disk_stop b e (Ok x) is stop = absurd is
disk_stop b e (Err s) is stop = subst (λ x. StopsAs {X = Unit {0}} b (Err x)) (sym is) (by e stop)
  where
    by : (e : Stop) → IsDiskStop e → StopsAs {X = Unit {0}} b (Err e)
    by (Refused refusal) stop = absurd stop
    by (Damaged path) stop = absurd stop
    by Failed stop = tt
    by Memory stop = tt
    by FarFailed stop = absurd stop
    by (FarDamaged path) stop = absurd stop

-- ---- one reading after the other

module _ {D : Type 0} {disk : DiskModel D} (laws : IsDisk disk) where
  pub both_read : {X Y : Type 0} {view : X → Y} {test : Tree → Result Y Refusal} {goal : Tree → Option Refusal} {Q : Tree → Name → Type 0} {old mid new : D} {x : Result X Stop} {r : Result (Unit {0}) Stop} → disk.faults old ≤ disk.faults mid
      → (IsTrue disk.tells → HasRead disk old mid (Unit {0})) → Tests disk view test mid new x → CheckEnds disk.tells (goal (disk.reads old)) (Q (disk.reads old)) r (disk.faults old) (disk.faults new) → Checks disk goal Q old new r
  both_read early first next ends = record {
    later = omega (arith, early, next.later);
    same = λ tells. let a = first tells in let b = next.same tells in record { answer = tt; same = same_on a.same b.same; time = time_on laws a.same a.time b.time };
    ends = ends;
  }

  -- what is done behind a reading
  pub prepares_read : {A : Type 0} {refused : Refusal → Type 0} {names : Name → Type 0} {P Q : Tree → Type 0} {old mid new : D} {r : Result (Unit {0}) Stop} → disk.faults old ≤ disk.faults mid → (IsTrue disk.tells → HasRead disk old mid A)
      → Prepares disk refused names P mid new r → (IsTrue disk.tells → (t : Tree) → P t → Q t) → Prepares disk refused names Q old new r
  prepares_read {refused = refused} {names = names} {P = P} {Q = Q} {old = old} {mid = mid} {new = new} {r = r} early read run so = record {
    later = omega (arith, early, run.later);
    ends = by r run.ends;
    confined = λ tells. confined_then (confined_read laws names (read tells)) (run.confined tells);
  }
    where
      stops : (e : Stop) → StopsBefore refused (disk.faults mid) (disk.faults new) e → StopsBefore refused (disk.faults old) (disk.faults new) e
      stops Failed ends = rose_before (disk.faults old) (disk.faults mid) (disk.faults new) early ends
      stops Memory ends = tt
      stops (Refused refusal) ends = ends
      stops (Damaged path) ends = ends
      stops FarFailed ends = ends
      stops (FarDamaged path) ends = ends

      by : (r : Result (Unit {0}) Stop) → EndsWith disk.tells refused (P (disk.reads new)) r (disk.faults mid) (disk.faults new) → EndsWith disk.tells refused (Q (disk.reads new)) r (disk.faults old) (disk.faults new)
      by (Ok x) ends = λ tells. so tells (disk.reads new) (ends tells)
      by (Err e) ends = stops e ends

  -- the reading stopped
  pub read_stopped : {X Y : Type 0} {view : X → Y} {test : Tree → Result Y Refusal} {refused : Refusal → Type 0} {names : Name → Type 0} {P : Tree → Type 0} {old new : D} {r : Result (Unit {0}) Stop} (e : Stop) → Tests {X = X} disk view test old new (Err e) → IsDiskStop e
      → IsErrAnd r (λ s. s ≡ e) → Prepares disk refused names P old new r
  read_stopped {X = X} {view = view} {test = test} {refused = refused} {names = names} {P = P} {old = old} {new = new} {r = r} e tests stop is = record {
    later = tests.later;
    ends = by r is;
    confined = λ tells. confined_read laws names (tests.same tells);
  }
    where
      stops : (e : Stop) → IsDiskStop e → Found {X = X} view disk.tells (test (disk.reads old)) (Err e) (disk.faults old) (disk.faults new) → StopsBefore refused (disk.faults old) (disk.faults new) e
      stops Failed stop found = found
      stops Memory stop found = tt
      stops (Refused refusal) stop found = absurd stop
      stops (Damaged path) stop found = absurd stop
      stops FarFailed stop found = absurd stop
      stops (FarDamaged path) stop found = absurd stop

      by : (r : Result (Unit {0}) Stop) → IsErrAnd r (λ s. s ≡ e) → EndsWith disk.tells refused (P (disk.reads new)) r (disk.faults old) (disk.faults new)
      by (Ok x) is = absurd is
      by (Err s) is = subst (λ x. EndsWith disk.tells refused (P (disk.reads new)) (Err x) (disk.faults old) (disk.faults new)) (sym is) (stops e stop tests.found)
