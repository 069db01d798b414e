-- How runs of calls that only read follow one another.
use Rattle.std.proofs.Common.{◌≡◌, ℕ, ◌≤◌, Bool, IsTrue, Result, Ok, Err, IfOk, IfErr, IsErrAnd, sym, subst, arith}
use Rattle.journal_log.specs.cny-base.Count.{Rose}
use Rattle.journal_log.specs.cny-base.declared.refusal.Refusal.{Refusal}
use Rattle.journal_log.specs.cny-base.declared.stop.Stop.{Stop}
use Rattle.journal_log.specs.cny-base.declared.stop.Stop.TheVariants.{Refused, Memory, Failed, Damaged, FarFailed, FarDamaged}
use Rattle.journal_log.specs.tree-disk.Tree.{Tree}
use Rattle.journal_log.specs.tree-disk.Disk.{DiskModel, IsDisk}
use Rattle.journal_log.specs.tree-disk.Moments.{same_start, same_on, time_start, time_on}
use Rattle.journal_log.proofs.tree-disk.Moments.{rose_before}
use Rattle.journal_log.specs.tree-disk.Steps.{IsDiskStop, Found, Tests}
use Rattle.tree_journal.specs.Found.{IsFaultOr, Finds}

pub if_ok_err : {X : Type 0} (P : X → Type 0) (e : Stop) (r : Result X Stop) → IsErrAnd r (λ s. s ≡ e) → IfOk r P
if_ok_err P e (Ok x) is = absurd is
if_ok_err P e (Err s) is = tt

pub if_err : {X : Type 0} (P : Stop → Type 0) (e : Stop) (r : Result X Stop) → IsErrAnd r (λ s. s ≡ e) → P e → IfErr r P
if_err P e (Ok x) is p = absurd is
if_err P e (Err s) is p = subst P (sym is) p

rose_on : {X : Type 0} (r : Result X Stop) (a b c : ℕ) → a ≤ b → IfErr r (IsFaultOr (Rose b c)) → IfErr r (IsFaultOr (Rose a c))
rose_on (Ok x) a b c le h = tt
rose_on (Err (Refused refusal)) a b c le h = h
rose_on (Err Memory) a b c le h = h
rose_on (Err Failed) a b c le h = rose_before a b c le h
rose_on (Err (Damaged path)) a b c le h = h
rose_on (Err FarFailed) a b c le h = h
rose_on (Err (FarDamaged path)) a b c le h = h

stop_of_test : {X Y : Type 0} (view : X → Y) (told : Bool) (expected : Result Y Refusal) (e : Stop) (a b : ℕ) → IsDiskStop e → Found view told expected (Err e) a b → IsFaultOr (Rose a b) e
stop_of_test view told expected (Refused refusal) a b stop found = stop
stop_of_test view told expected Memory a b stop found = tt
stop_of_test view told expected Failed a b stop found = found
stop_of_test view told expected (Damaged path) a b stop found = stop
stop_of_test view told expected FarFailed a b stop found = stop
stop_of_test view told expected (FarDamaged path) a b stop found = stop

module _ {D : Type 0} {disk : DiskModel D} where
  -- it may say less
  pub finds_weaker : {X : Type 0} {P Q : Tree → X → Type 0} {old new : D} {r : Result X Stop} → Finds disk P old new r
      → (IsTrue disk.tells → (x : X) → P (disk.reads old) x → Q (disk.reads old) x) → Finds disk Q old new r
  finds_weaker {X = X} {P = P} {Q = Q} {old = old} {r = r} finds weaker = record {
    later = finds.later;
    found = λ tells. record { answer = by tells r (finds.found tells).answer; same = (finds.found tells).same; time = (finds.found tells).time };
    stops = finds.stops;
  }
    where
      by : IsTrue disk.tells → (r : Result X Stop) → IfOk r (P (disk.reads old)) → IfOk r (Q (disk.reads old))
      by tells (Ok x) p = weaker tells x p
      by tells (Err e) p = tt

  -- a test that stopped, passed on by `?`
  pub finds_test_stop : {X Y Z : Type 0} {view : X → Y} {test : Tree → Result Y Refusal} {P : Tree → Z → Type 0} {old new : D} {e : Stop} {r : Result Z Stop}
      → Tests disk view test old new (Err e) → IsDiskStop e → IsErrAnd r (λ s. s ≡ e) → Finds disk P old new r
  finds_test_stop {view = view} {P = P} {old = old} {e = e} {r = r} tested stop is = record {
    later = tested.later;
    found = λ tells. record { answer = if_ok_err (P (disk.reads old)) e r is; same = (tested.same tells).same; time = (tested.same tells).time };
    stops = if_err (IsFaultOr _) e r is (stop_of_test view disk.tells _ e _ _ stop tested.found);
  }

  -- an answer after a test that passed
  pub finds_test_answer : {X Y Z : Type 0} {view : X → Y} {test : Tree → Result Y Refusal} {P : Tree → Z → Type 0} {old new : D} {x : X} {z : Z}
      → Tests disk view test old new (Ok x) → (IsTrue disk.tells → P (disk.reads old) z) → Finds disk P old new (Ok z)
  finds_test_answer tested is = record {
    later = tested.later;
    found = λ tells. record { answer = is tells; same = (tested.same tells).same; time = (tested.same tells).time };
    stops = tt;
  }

  -- what a test finds
  pub finds_test : {X Y : Type 0} {view : X → Y} {value : Tree → Y} {old new : D} {r : Result X Stop}
      → Tests disk view (λ tree. Ok (value tree)) old new r → IfErr r IsDiskStop → Finds disk (λ tree x. view x ≡ value tree) old new r
  finds_test {X = X} {Y = Y} {view = view} {value = value} {old = old} {new = new} {r = r} tested stops = record {
    later = tested.later;
    found = λ tells. record { answer = by tells r tested.found; same = (tested.same tells).same; time = (tested.same tells).time };
    stops = ends r stops tested.found;
  }
    where
      ok_same : (a b : Y) → (let x : Result Y Refusal = Ok a in x ≡ Ok b) → b ≡ a
      ok_same a b is = cc is

      by : IsTrue disk.tells → (r : Result X Stop) → Found view disk.tells (Ok (value (disk.reads old))) r (disk.faults old) (disk.faults new) → IfOk r (λ x. view x ≡ value (disk.reads old))
      by tells (Ok x) found = ok_same (value (disk.reads old)) (view x) (found tells)
      by tells (Err e) found = tt

      ends : (r : Result X Stop) → IfErr r IsDiskStop → Found view disk.tells (Ok (value (disk.reads old))) r (disk.faults old) (disk.faults new) → IfErr r (IsFaultOr (Rose (disk.faults old) (disk.faults new)))
      ends (Ok x) stop found = tt
      ends (Err e) stop found = stop_of_test view disk.tells _ e _ _ stop found

  -- a run that stopped, passed on by `?`
  pub finds_stop : {X Z : Type 0} {Q : Tree → X → Type 0} {P : Tree → Z → Type 0} {old new : D} {e : Stop} {r : Result Z Stop}
      → Finds disk Q old new (Err e) → IsErrAnd r (λ s. s ≡ e) → Finds disk P old new r
  finds_stop {P = P} {old = old} {e = e} {r = r} finds is = record {
    later = finds.later;
    found = λ tells. record { answer = if_ok_err (P (disk.reads old)) e r is; same = (finds.found tells).same; time = (finds.found tells).time };
    stops = if_err (IsFaultOr _) e r is finds.stops;
  }

  -- an answer without another call
  pub finds_answer : {X Z : Type 0} {Q : Tree → X → Type 0} {P : Tree → Z → Type 0} {old new : D} {x : X} {z : Z}
      → Finds disk Q old new (Ok x) → (IsTrue disk.tells → Q (disk.reads old) x → P (disk.reads old) z) → Finds disk P old new (Ok z)
  finds_answer finds is = record {
    later = finds.later;
    found = λ tells. record { answer = is tells (finds.found tells).answer; same = (finds.found tells).same; time = (finds.found tells).time };
    stops = tt;
  }

  -- want of memory after a run, however it ended
  pub finds_memory : {X Z : Type 0} {Q : Tree → X → Type 0} {P : Tree → Z → Type 0} {old new : D} {q : Result X Stop} {r : Result Z Stop}
      → Finds disk Q old new q → IsErrAnd r (λ s. s ≡ Memory) → Finds disk P old new r
  finds_memory {P = P} {old = old} {r = r} finds is = record {
    later = finds.later;
    found = λ tells. record { answer = if_ok_err (P (disk.reads old)) Memory r is; same = (finds.found tells).same; time = (finds.found tells).time };
    stops = if_err (IsFaultOr _) Memory r is tt;
  }

  module _ (laws : IsDisk disk) where
    -- no call at all
    pub finds_start : {Z : Type 0} {P : Tree → Z → Type 0} (d : D) (z : Z) → (IsTrue disk.tells → P (disk.reads d) z) → Finds disk P d d (Ok z)
    finds_start d z is = record {
      later = omega arith;
      found = λ tells. record { answer = is tells; same = same_start disk d; time = time_start laws d };
      stops = tt;
    }

    -- want of memory before the first call
    pub finds_no_memory : {Z : Type 0} {P : Tree → Z → Type 0} (d : D) {r : Result Z Stop} → IsErrAnd r (λ s. s ≡ Memory) → Finds disk P d d r
    finds_no_memory {P = P} d {r = r} is = record {
      later = omega arith;
      found = λ tells. record { answer = if_ok_err (P (disk.reads d)) Memory r is; same = same_start disk d; time = time_start laws d };
      stops = if_err (IsFaultOr _) Memory r is tt;
    }

    -- one run after another
    pub finds_then : {X Z : Type 0} {Q : Tree → X → Type 0} {P R : Tree → Z → Type 0} {old mid new : D} {x : X} {r : Result Z Stop}
        → Finds disk Q old mid (Ok x) → Finds disk P mid new r
        → (IsTrue disk.tells → Q (disk.reads old) x → (z : Z) → P (disk.reads old) z → R (disk.reads old) z) → Finds disk R old new r
    finds_then {X = X} {Z = Z} {Q = Q} {P = P} {R = R} {old = old} {mid = mid} {new = new} {x = x} {r = r} first then so = record {
      later = omega (arith, first.later, then.later);
      found = λ tells. record {
        answer = by tells r (subst (λ (t : Tree). IfOk r (P t)) (first.found tells).same.reads (then.found tells).answer);
        same = same_on (first.found tells).same (then.found tells).same;
        time = time_on laws (first.found tells).same (first.found tells).time (then.found tells).time;
      };
      stops = rose_on r _ _ _ first.later then.stops;
    }
      where
        by : IsTrue disk.tells → (r : Result Z Stop) → IfOk r (P (disk.reads old)) → IfOk r (R (disk.reads old))
        by tells (Ok z) p = so tells (first.found tells).answer z p
        by tells (Err e) p = tt

    -- a run that stopped, behind one that ended, passed on by `?`
    pub finds_then_stop : {X Y Z : Type 0} {Q : Tree → X → Type 0} {P : Tree → Y → Type 0} {R : Tree → Z → Type 0} {old mid new : D} {x : X} {e : Stop} {r : Result Z Stop}
        → Finds disk Q old mid (Ok x) → Finds disk P mid new (Err e) → IsErrAnd r (λ s. s ≡ e) → Finds disk R old new r
    finds_then_stop {R = R} first then is = finds_then first (finds_stop {P = R} then is) (λ tells q z p. p)

    -- a run after a test that passed
    pub finds_after_test : {X Y Z : Type 0} {view : X → Y} {value : Tree → Y} {P R : Tree → Z → Type 0} {old mid new : D} {x : X} {r : Result Z Stop}
        → Tests disk view (λ tree. Ok (value tree)) old mid (Ok x) → Finds disk P mid new r
        → (IsTrue disk.tells → view x ≡ value (disk.reads old) → (z : Z) → P (disk.reads old) z → R (disk.reads old) z) → Finds disk R old new r
    finds_after_test {view = view} {value = value} tested then so = finds_then (finds_test {view = view} {value = value} tested tt) then so
