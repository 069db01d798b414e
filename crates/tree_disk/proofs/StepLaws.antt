-- How steps follow one another: what callers cite, one line at each exit.
use Rattle.std.specs.Prelude.{◌≡◌, ℕ, ◌≤◌, Bool, IsTrue, Result, Ok, Err, IsErrAnd, refl}
use Rattle.std.proofs.Common.{◌∙◌, sym, ap, subst, arith}
use Rattle.std.specs.FinMap.{get}
use Rattle.cny_base.specs.declared.refusal.Refusal.{Refusal}
use Rattle.cny_base.specs.declared.stop.Stop.{Stop}
use Rattle.cny_base.specs.declared.stop.Stop.TheVariants.{Refused, Memory, Failed, Damaged, FarFailed, FarDamaged}
use Rattle.tree_disk.specs.Tree.{Name, Tree}
use Rattle.tree_disk.specs.Disk.{DiskModel, IsDisk}
use Rattle.tree_disk.specs.Moments.{same_on, time_on, same_start, time_start}
use Rattle.tree_disk.proofs.Moments.{rose_before}
use Rattle.tree_disk.specs.Confined.{Among, Confined}
use Rattle.tree_disk.proofs.ConfinedLaws.{confined_start, confined_read, confined_then, confined_wider, outside_among}
use Rattle.tree_disk.specs.Steps.{IsDiskStop, Found, Tests, Ended, Makes, Within}

-- ---- how steps end

-- a test that passed on what an earlier one left
found_on : {X Y : Type 0} (view : X → Y) (told : Bool) (before expected : Result Y Refusal) (r : Result X Stop) (a b c : ℕ)
    → (IsTrue told → before ≡ expected) → a ≤ b → Found view told before r b c → Found view told expected r a c
found_on view told before expected (Ok x) a b c is le found = λ tells. sym (is tells) ∙ found tells
found_on view told before expected (Err (Refused refusal)) a b c is le found = λ tells. sym (is tells) ∙ found tells
found_on view told before expected (Err Failed) a b c is le found = rose_before a b c le found
found_on view told before expected (Err Memory) a b c is le found = tt
found_on view told before expected (Err (Damaged path)) a b c is le found = found
found_on view told before expected (Err FarFailed) a b c is le found = found
found_on view told before expected (Err (FarDamaged path)) a b c is le found = found

-- a stop passed on by `?`
found_stop : {X Y Z W : Type 0} (view : X → Y) (other : Z → W) (told : Bool) (expected : Result Y Refusal) (goal : Result W Refusal) (e : Stop) (r : Result Z Stop) (before now : ℕ)
    → IsErrAnd r (λ s. s ≡ e) → (IsTrue told → (refusal : Refusal) → expected ≡ Err refusal → goal ≡ Err refusal)
    → Found view told expected (Err e) before now → Found other told goal r before now
found_stop view other told expected goal e (Ok z) before now is refuse found = absurd is
found_stop view other told expected goal e (Err s) before now is refuse found = subst (λ x. Found other told goal (Err x) before now) (sym is) (by e found)
  where
    by : (e : Stop) → Found view told expected (Err e) before now → Found other told goal (Err e) before now
    by (Refused refusal) found = λ tells. refuse tells refusal (found tells)
    by Failed found = found
    by Memory found = found
    by (Damaged path) found = found
    by FarFailed found = found
    by (FarDamaged path) found = found

ended_on : {X : Type 0} (told : Bool) (after goal new : Tree) (r : Result X Stop) (a b c : ℕ) → (IsTrue told → after ≡ goal) → a ≤ b
    → Ended told after new r b c → Ended told goal new r a c
ended_on told after goal new (Ok x) a b c is le ended = λ tells. ended tells ∙ is tells
ended_on told after goal new (Err (Refused refusal)) a b c is le ended = ended
ended_on told after goal new (Err Failed) a b c is le ended = rose_before a b c le ended
ended_on told after goal new (Err Memory) a b c is le ended = tt
ended_on told after goal new (Err (Damaged path)) a b c is le ended = ended
ended_on told after goal new (Err FarFailed) a b c is le ended = ended
ended_on told after goal new (Err (FarDamaged path)) a b c is le ended = ended

-- a stop passed on by `?`
ended_stop : (X : Type 0) {Z : Type 0} (told : Bool) (after goal new : Tree) (e : Stop) (r : Result Z Stop) (a b c : ℕ) → IsErrAnd r (λ s. s ≡ e) → a ≤ b → Ended {X = X} told after new (Err e) b c → Ended told goal new r a c
ended_stop X told after goal new e (Ok z) a b c is le ended = absurd is
ended_stop X {Z = Z} told after goal new e (Err s) a b c is le ended = subst (λ x. Ended {X = Z} told goal new (Err x) a c) (sym is) (by e ended)
  where
    by : (e : Stop) → Ended {X = X} told after new (Err e) b c → Ended {X = Z} told goal new (Err e) a c
    by (Refused refusal) ended = ended
    by Failed ended = rose_before a b c le ended
    by Memory ended = ended
    by (Damaged path) ended = ended
    by FarFailed ended = ended
    by (FarDamaged path) ended = ended

-- a test that stops, in place of a change
test_ended : {X Y Z : Type 0} (view : X → Y) (told : Bool) (expected : Result Y Refusal) (goal new : Tree) (e : Stop) (r : Result Z Stop) (before now : ℕ)
    → IsDiskStop e → IsErrAnd r (λ s. s ≡ e) → Found view told expected (Err e) before now → Ended told goal new r before now
test_ended view told expected goal new e (Ok z) before now stop is found = absurd is
test_ended {Z = Z} view told expected goal new e (Err s) before now stop is found = subst (λ x. Ended {X = Z} told goal new (Err x) before now) (sym is) (by e stop found)
  where
    by : (e : Stop) → IsDiskStop e → Found view told expected (Err e) before now → Ended {X = Z} told goal new (Err e) before now
    by (Refused refusal) stop found = absurd stop
    by Failed stop found = found
    by Memory stop found = found
    by (Damaged path) stop found = found
    by FarFailed stop found = found
    by (FarDamaged path) stop found = found

memory_found : {Z W : Type 0} (other : Z → W) (told : Bool) (goal : Result W Refusal) (r : Result Z Stop) (before now : ℕ)
    → IsErrAnd r (λ s. s ≡ Memory) → Found other told goal r before now
memory_found other told goal (Ok z) before now is = absurd is
memory_found other told goal (Err s) before now is = subst (λ x. Found other told goal (Err x) before now) (sym is) tt

memory_ended : {Z : Type 0} (told : Bool) (goal new : Tree) (r : Result Z Stop) (before now : ℕ) → IsErrAnd r (λ s. s ≡ Memory)
    → Ended told goal new r before now
memory_ended told goal new (Ok z) before now is = absurd is
memory_ended {Z = Z} told goal new (Err s) before now is = subst (λ x. Ended {X = Z} told goal new (Err x) before now) (sym is) tt

-- ---- one step after another: what callers cite, one line at each exit

ok_value : {Y : Type 0} (a b : Y) → (let x : Result Y Refusal = Ok a in x ≡ Ok b) → b ≡ a
ok_value a b is = cc is

module _ {D : Type 0} {disk : DiskModel D} where
  -- what a test without refusals found
  pub tests_value : {X Y : Type 0} {view : X → Y} {value : Tree → Y} {old new : D} {x : X}
      → Tests disk view (λ tree. Ok (value tree)) old new (Ok x) → IsTrue disk.tells → view x ≡ value (disk.reads old)
  tests_value {view = view} {value = value} {old = old} {x = x} tested tells = ok_value (value (disk.reads old)) (view x) (tested.found tells)

  -- the same test, said otherwise
  pub tests_as : {X Y : Type 0} {view : X → Y} {test goal : Tree → Result Y Refusal} {old new : D} {r : Result X Stop}
      → Tests disk view test old new r → (IsTrue disk.tells → test (disk.reads old) ≡ goal (disk.reads old))
      → Tests disk view goal old new r
  tests_as {view = view} {r = r} tested is = record {
    later = tested.later;
    same = tested.same;
    found = found_on view disk.tells _ _ r _ _ _ is (omega arith) tested.found;
  }

  -- a test that passed, and an answer without another call
  pub tests_answer : {X Y Z W : Type 0} {view : X → Y} {other : Z → W} {test : Tree → Result Y Refusal} {goal : Tree → Result W Refusal} {old new : D} {x : X} {z : Z}
      → Tests disk view test old new (Ok x) → (IsTrue disk.tells → goal (disk.reads old) ≡ Ok (other z))
      → Tests disk other goal old new (Ok z)
  tests_answer tested is = record { later = tested.later; same = tested.same; found = is }

  -- the same, with a refusal
  pub tests_refuse : {X Y Z W : Type 0} {view : X → Y} {other : Z → W} {test : Tree → Result Y Refusal} {goal : Tree → Result W Refusal} {old new : D} {x : X} {refusal : Refusal}
      → Tests disk view test old new (Ok x) → (IsTrue disk.tells → goal (disk.reads old) ≡ Err refusal)
      → Tests disk other goal old new (Err (Refused refusal))
  tests_refuse tested is = record { later = tested.later; same = tested.same; found = is }

  -- a test that stopped, passed on by `?`: what it refuses, the goal refuses
  pub tests_stop : {X Y Z W : Type 0} {view : X → Y} {other : Z → W} {test : Tree → Result Y Refusal} {goal : Tree → Result W Refusal} {old new : D} {e : Stop} {r : Result Z Stop}
      → Tests disk view test old new (Err e) → IsErrAnd r (λ s. s ≡ e)
      → (IsTrue disk.tells → (refusal : Refusal) → test (disk.reads old) ≡ Err refusal → goal (disk.reads old) ≡ Err refusal)
      → Tests disk other goal old new r
  tests_stop {view = view} {other = other} {e = e} {r = r} tested is refuse = record {
    later = tested.later;
    same = tested.same;
    found = found_stop view other disk.tells _ _ e r _ _ is refuse tested.found;
  }

  -- want of memory after a test, however it ended
  pub tests_memory : {X Y Z W : Type 0} {view : X → Y} {other : Z → W} {test : Tree → Result Y Refusal} {goal : Tree → Result W Refusal} {old new : D} {q : Result X Stop} {r : Result Z Stop}
      → Tests disk view test old new q → IsErrAnd r (λ s. s ≡ Memory) → Tests disk other goal old new r
  tests_memory {other = other} {r = r} tested is = record {
    later = tested.later;
    same = tested.same;
    found = memory_found other disk.tells _ r _ _ is;
  }

  -- the same change, said otherwise
  pub makes_as : {X : Type 0} {names : Name → Bool} {change goal : Tree → Tree} {old new : D} {r : Result X Stop}
      → Makes disk names change old new r → (IsTrue disk.tells → change (disk.reads old) ≡ goal (disk.reads old))
      → Makes disk names goal old new r
  makes_as {r = r} made is = record {
    later = made.later;
    ended = ended_on disk.tells _ _ _ r _ _ _ is (omega arith) made.ended;
    outside = made.outside;
    confined = made.confined;
  }

  -- more names
  pub makes_wider : {X : Type 0} {few many : Name → Bool} {change : Tree → Tree} {old new : D} {r : Result X Stop} → Within few many
      → Makes disk few change old new r → Makes disk many change old new r
  makes_wider {few = few} {many = many} {old = old} {new = new} within made = record {
    later = made.later;
    ended = made.ended;
    outside = λ tells. outside_among many (disk.reads new) (disk.reads old) (confined_wider within (made.confined tells)).reads;
    confined = λ tells. confined_wider within (made.confined tells);
  }

  -- a change that stopped, passed on by `?`
  pub makes_stop : {X Z : Type 0} {names : Name → Bool} {change goal : Tree → Tree} {old new : D} {e : Stop} {r : Result Z Stop} → Makes {X = X} disk names change old new (Err e) → IsErrAnd r (λ s. s ≡ e) → Makes disk names goal old new r
  makes_stop {X = X} {change = change} {goal = goal} {old = old} {new = new} {e = e} {r = r} made is = record {
    later = made.later;
    ended = ended_stop X disk.tells (change (disk.reads old)) (goal (disk.reads old)) (disk.reads new) e r _ (disk.faults old) _ is (omega arith) made.ended;
    outside = made.outside;
    confined = made.confined;
  }

  -- want of memory after a change, however it ended
  pub makes_memory : {X Z : Type 0} {names : Name → Bool} {change goal : Tree → Tree} {old new : D} {q : Result X Stop} {r : Result Z Stop}
      → Makes disk names change old new q → IsErrAnd r (λ s. s ≡ Memory) → Makes disk names goal old new r
  makes_memory {r = r} made is = record {
    later = made.later;
    ended = memory_ended disk.tells _ _ r _ _ is;
    outside = made.outside;
    confined = made.confined;
  }

  -- one change after another, at some of its names
  pub makes_then : {X Z : Type 0} {few many : Name → Bool} {first next goal : Tree → Tree} {old mid new : D} {x : X} {r : Result Z Stop}
      → Makes disk many first old mid (Ok x) → Within few many → Makes disk few next mid new r
      → (IsTrue disk.tells → next (first (disk.reads old)) ≡ goal (disk.reads old)) → Makes disk many goal old new r
  makes_then {many = many} {first = first} {next = next} {old = old} {mid = mid} {new = new} {r = r} so_far within made is = record {
    later = omega (arith, so_far.later, made.later);
    ended = ended_on disk.tells _ _ _ r _ _ _ (λ tells. ap next (so_far.ended tells) ∙ is tells) so_far.later made.ended;
    outside = λ tells. outside_among many (disk.reads new) (disk.reads old) (both tells).reads;
    confined = both;
  }
    where
      both : IsTrue disk.tells → Confined disk (Among many) old new
      both tells = confined_then (so_far.confined tells) (confined_wider within (made.confined tells))

  -- one change after another, and the second one stopped
  pub makes_then_stop : {X Y Z : Type 0} {few many : Name → Bool} {first next goal : Tree → Tree} {old mid new : D} {x : X} {e : Stop} {r : Result Z Stop} → Makes disk many first old mid (Ok x) → Within few many → Makes {X = Y} disk few next mid new (Err e)
      → IsErrAnd r (λ s. s ≡ e) → Makes disk many goal old new r
  makes_then_stop {Y = Y} {first = first} {next = next} {e = e} so_far within made is =
      makes_stop {X = Y} {e = e} (makes_then {goal = λ t. next (first t)} so_far within made (λ tells. refl)) is

  module _ (laws : IsDisk disk) where
    -- no call at all
    pub tests_start : {X Y : Type 0} {view : X → Y} {goal : Tree → Result Y Refusal} (d : D) (x : X)
        → (IsTrue disk.tells → goal (disk.reads d) ≡ Ok (view x)) → Tests disk view goal d d (Ok x)
    tests_start d x is = record {
      later = omega arith;
      same = λ tells. record { answer = tt; same = same_start disk d; time = time_start laws d };
      found = is;
    }

    -- one test after another that passed
    pub tests_then : {X Y Z W : Type 0} {view : X → Y} {other : Z → W} {test : Tree → Result Y Refusal} {next goal : Tree → Result W Refusal} {old mid new : D} {x : X} {r : Result Z Stop}
        → Tests disk view test old mid (Ok x) → Tests disk other next mid new r
        → (IsTrue disk.tells → next (disk.reads old) ≡ goal (disk.reads old)) → Tests disk other goal old new r
    tests_then {other = other} {next = next} {r = r} first then is = record {
      later = omega (arith, first.later, then.later);
      same = λ tells. record {
        answer = tt;
        same = same_on (first.same tells).same (then.same tells).same;
        time = time_on laws (first.same tells).same (first.same tells).time (then.same tells).time;
      };
      found = found_on other disk.tells _ _ r _ _ _ (λ tells. ap next (first.same tells).same.reads ∙ is tells) first.later then.found;
    }

    -- no change at all
    pub makes_start : {X : Type 0} {goal : Tree → Tree} (names : Name → Bool) (d : D) (x : X)
        → (IsTrue disk.tells → goal (disk.reads d) ≡ disk.reads d) → Makes disk names goal d d (Ok x)
    makes_start names d x is = record {
      later = omega arith;
      ended = λ tells. sym (is tells);
      outside = λ tells p other. refl;
      confined = λ tells. confined_start laws (Among names) d;
    }

    -- want of memory before the first call
    pub makes_no_memory : {Z : Type 0} {goal : Tree → Tree} {r : Result Z Stop} (names : Name → Bool) (d : D) → IsErrAnd r (λ s. s ≡ Memory) → Makes disk names goal d d r
    makes_no_memory names d is = makes_memory {X = Unit {0}} {q = Ok tt} (makes_start {goal = λ tree. tree} names d tt (λ tells. refl)) is

    -- a test that passed, as a change that changes nothing
    pub makes_from_test : {X Y Z : Type 0} {view : X → Y} {test : Tree → Result Y Refusal} {goal : Tree → Tree} {old new : D} {x : X} (names : Name → Bool) (z : Z)
        → Tests disk view test old new (Ok x) → (IsTrue disk.tells → goal (disk.reads old) ≡ disk.reads old)
        → Makes disk names goal old new (Ok z)
    makes_from_test names z tested is = record {
      later = tested.later;
      ended = λ tells. (tested.same tells).same.reads ∙ sym (is tells);
      outside = λ tells p other. ap (λ (t : Tree). get t p) (tested.same tells).same.reads;
      confined = λ tells. confined_read laws (Among names) (tested.same tells);
    }

    -- a change after a test that passed
    pub makes_after_test : {X Y Z : Type 0} {view : X → Y} {test : Tree → Result Y Refusal} {names : Name → Bool} {change goal : Tree → Tree} {old mid new : D} {x : X} {r : Result Z Stop}
        → Tests disk view test old mid (Ok x) → Makes disk names change mid new r
        → (IsTrue disk.tells → change (disk.reads old) ≡ goal (disk.reads old)) → Makes disk names goal old new r
    makes_after_test {Z = Z} {names = names} {change = change} tested made is =
        makes_then {X = Unit {0}} {x = tt {0}} (makes_from_test {goal = λ t. t} names (tt {0}) tested (λ tells. refl)) (λ p h. h) made is

    -- a change after a test that passed, and the change stopped
    pub makes_test_then_stop : {V W Y Z : Type 0} {view : V → W} {test : Tree → Result W Refusal} {few many : Name → Bool} {change goal : Tree → Tree} {old mid new : D} {v : V} {e : Stop} {r : Result Z Stop} → Tests disk view test old mid (Ok v) → Within few many → Makes {X = Y} disk few change mid new (Err e)
        → IsErrAnd r (λ s. s ≡ e) → Makes disk many goal old new r
    makes_test_then_stop {Y = Y} {many = many} {change = change} {e = e} tested within made is =
        makes_then_stop {X = Unit {0}} {Y = Y} {first = λ t. t} {x = tt {0}} {e = e} (makes_from_test {goal = λ t. t} many (tt {0}) tested (λ tells. refl)) within made is

    -- a test that stopped before a change, passed on by `?`
    pub makes_test_stop : {X Y Z : Type 0} {view : X → Y} {test : Tree → Result Y Refusal} {goal : Tree → Tree} {old new : D} {e : Stop} {r : Result Z Stop} (names : Name → Bool)
        → Tests disk view test old new (Err e) → IsDiskStop e → IsErrAnd r (λ s. s ≡ e) → Makes disk names goal old new r
    makes_test_stop {view = view} {e = e} {r = r} names tested stop is = record {
      later = tested.later;
      ended = test_ended view disk.tells _ _ _ e r _ _ stop is tested.found;
      outside = λ tells p other. ap (λ (t : Tree). get t p) (tested.same tells).same.reads;
      confined = λ tells. confined_read laws (Among names) (tested.same tells);
    }
