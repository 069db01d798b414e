-- How runs of calls that only read a disk follow one another.
use Rattle.std.proofs.Common.{◌≡◌, ℕ, ◌≤◌, Bool, IsTrue, Result, Ok, Err, IsErrAnd, sym, subst, arith, refl}
use Rattle.tree_disk.specs.cny-base.Stop.{stop_of_fault}
use Rattle.tree_disk.specs.cny-base.declared.refusal.Fault.{Fault}
use Rattle.tree_disk.specs.cny-base.declared.refusal.Fault.TheVariants as fault
use Rattle.tree_disk.specs.cny-base.declared.refusal.Refusal.{Refusal}
use Rattle.tree_disk.specs.cny-base.declared.stop.Stop.{Stop}
use Rattle.tree_disk.specs.cny-base.declared.stop.Stop.TheVariants.{Refused, Memory, Failed, Damaged, FarFailed, FarDamaged}
use Rattle.tree_disk.specs.Tree.{Tree}
use Rattle.tree_disk.specs.Disk.{DiskModel, IsDisk}
use Rattle.tree_disk.specs.Moments.{same_start, same_on, time_start, time_on}
use Rattle.tree_disk.proofs.Moments.{rose_before}
use Rattle.tree_disk.specs.Steps.{Found, Tests}
use Rattle.tree_scan.specs.OnlyReads.{OnlyReads, ReadEnds}

-- ---- ends

-- an end that says less, of an earlier count
ends_weaker : {X : Type 0} (told : Bool) (P S : X → Type 0) (Q V : Refusal → Type 0) (r : Result X Stop) (a b c : ℕ) → a ≤ b
    → (IsTrue told → (x : X) → P x → S x) → (IsTrue told → (refusal : Refusal) → Q refusal → V refusal) → ReadEnds told P Q r b c → ReadEnds told S V r a c
ends_weaker told P S Q V (Ok x) a b c le value refuse ends = λ tells. value tells x (ends tells)
ends_weaker told P S Q V (Err (Refused refusal)) a b c le value refuse ends = λ tells. refuse tells refusal (ends tells)
ends_weaker told P S Q V (Err Failed) a b c le value refuse ends = rose_before a b c le ends
ends_weaker told P S Q V (Err Memory) a b c le value refuse ends = tt
ends_weaker told P S Q V (Err (Damaged path)) a b c le value refuse ends = ends
ends_weaker told P S Q V (Err FarFailed) a b c le value refuse ends = ends
ends_weaker told P S Q V (Err (FarDamaged path)) a b c le value refuse ends = ends

-- a stop passed on by `?`
ends_stop : {X Z : Type 0} (told : Bool) (P : X → Type 0) (S : Z → Type 0) (Q V : Refusal → Type 0) (e : Stop) (r : Result Z Stop) (a c : ℕ)
    → IsErrAnd r (λ s. s ≡ e) → (IsTrue told → (refusal : Refusal) → Q refusal → V refusal) → ReadEnds told P Q (Err e) a c → ReadEnds told S V r a c
ends_stop told P S Q V e (Ok z) a c is refuse ends = absurd is
ends_stop {X = X} {Z = Z} told P S Q V e (Err s) a c is refuse ends = subst (λ x. ReadEnds {X = Z} told S V (Err x) a c) (sym is) (by e ends)
  where
    by : (e : Stop) → ReadEnds {X = X} told P Q (Err e) a c → ReadEnds {X = Z} told S V (Err e) a c
    by (Refused refusal) ends = λ tells. refuse tells refusal (ends tells)
    by Failed ends = ends
    by Memory ends = tt
    by (Damaged path) ends = ends
    by FarFailed ends = ends
    by (FarDamaged path) ends = ends

ends_memory : {Z : Type 0} (told : Bool) (S : Z → Type 0) (V : Refusal → Type 0) (r : Result Z Stop) (a c : ℕ) → IsErrAnd r (λ s. s ≡ Memory) → ReadEnds told S V r a c
ends_memory told S V (Ok z) a c is = absurd is
ends_memory {Z = Z} told S V (Err s) a c is = subst (λ x. ReadEnds {X = Z} told S V (Err x) a c) (sym is) tt

ends_refused : {Z : Type 0} (told : Bool) (S : Z → Type 0) (V : Refusal → Type 0) (r : Result Z Stop) (refusal : Refusal) (a c : ℕ) → IsErrAnd r (λ s. s ≡ Refused refusal) → (IsTrue told → V refusal)
    → ReadEnds told S V r a c
ends_refused told S V (Ok z) refusal a c is why = absurd is
ends_refused {Z = Z} told S V (Err s) refusal a c is why = subst (λ x. ReadEnds {X = Z} told S V (Err x) a c) (sym is) why

-- a test that stopped
ends_test : {X Y Z : Type 0} (view : X → Y) (told : Bool) (expected : Result Y Refusal) (S : Z → Type 0) (V : Refusal → Type 0) (e : Stop) (r : Result Z Stop) (a c : ℕ)
    → IsErrAnd r (λ s. s ≡ e) → (IsTrue told → (refusal : Refusal) → expected ≡ Err refusal → V refusal) → Found view told expected (Err e) a c → ReadEnds told S V r a c
ends_test view told expected S V e (Ok z) a c is refuse found = absurd is
ends_test {Z = Z} view told expected S V e (Err s) a c is refuse found = subst (λ x. ReadEnds {X = Z} told S V (Err x) a c) (sym is) (by e found)
  where
    by : (e : Stop) → Found view told expected (Err e) a c → ReadEnds {X = Z} told S V (Err e) a c
    by (Refused refusal) found = λ tells. refuse tells refusal (found tells)
    by Failed found = found
    by Memory found = tt
    by (Damaged path) found = found
    by FarFailed found = found
    by (FarDamaged path) found = found

-- ---- runs

module _ {D : Type 0} {disk : DiskModel D} where
  -- a run that stopped, passed on by `?`
  pub reads_stop : {X Z : Type 0} {P : Tree → X → Type 0} {S : Tree → Z → Type 0} {Q V : Tree → Refusal → Type 0} {old new : D} {e : Stop} {r : Result Z Stop}
      → OnlyReads disk P Q old new (Err e) → IsErrAnd r (λ s. s ≡ e) → (IsTrue disk.tells → (refusal : Refusal) → Q (disk.reads old) refusal → V (disk.reads old) refusal)
      → OnlyReads disk S V old new r
  reads_stop {P = P} {S = S} {Q = Q} {V = V} {old = old} {e = e} {r = r} run is refuse = record {
    later = run.later;
    same = run.same;
    ends = ends_stop disk.tells (P (disk.reads old)) (S (disk.reads old)) (Q (disk.reads old)) (V (disk.reads old)) e r _ _ is refuse run.ends;
  }

  -- the tree stays
  pub reads_same : {X : Type 0} {P : Tree → X → Type 0} {Q : Tree → Refusal → Type 0} {old new : D} {r : Result X Stop} → OnlyReads disk P Q old new r → IsTrue disk.tells → disk.reads new ≡ disk.reads old
  reads_same run tells = (run.same tells).same.reads

  -- an answer without another call
  pub reads_answer : {X Z : Type 0} {P : Tree → X → Type 0} {S : Tree → Z → Type 0} {Q V : Tree → Refusal → Type 0} {old new : D} {x : X} {z : Z}
      → OnlyReads disk P Q old new (Ok x) → (IsTrue disk.tells → P (disk.reads old) x → S (disk.reads old) z) → OnlyReads disk S V old new (Ok z)
  reads_answer run is = record { later = run.later; same = run.same; ends = λ tells. is tells (run.ends tells) }

  -- a refusal without another call
  pub reads_refusal : {X Z : Type 0} {P : Tree → X → Type 0} {S : Tree → Z → Type 0} {Q V : Tree → Refusal → Type 0} {old new : D} {x : X} {r : Result Z Stop} (refusal : Refusal)
      → OnlyReads disk P Q old new (Ok x) → IsErrAnd r (λ s. s ≡ Refused refusal) → (IsTrue disk.tells → P (disk.reads old) x → V (disk.reads old) refusal) → OnlyReads disk S V old new r
  reads_refusal {S = S} {V = V} {old = old} {r = r} refusal run is why = record {
    later = run.later;
    same = run.same;
    ends = ends_refused disk.tells (S (disk.reads old)) (V (disk.reads old)) r refusal _ _ is (λ tells. why tells (run.ends tells));
  }

  -- want of memory after a run, however it ended
  pub reads_memory : {X Z : Type 0} {P : Tree → X → Type 0} {S : Tree → Z → Type 0} {Q V : Tree → Refusal → Type 0} {old new : D} {q : Result X Stop} {r : Result Z Stop}
      → OnlyReads disk P Q old new q → IsErrAnd r (λ s. s ≡ Memory) → OnlyReads disk S V old new r
  reads_memory {S = S} {V = V} {old = old} {r = r} run is = record {
    later = run.later;
    same = run.same;
    ends = ends_memory disk.tells (S (disk.reads old)) (V (disk.reads old)) r _ _ is;
  }

  -- a fault without another call, passed on by `?`
  pub reads_fault : {X Z : Type 0} {P : Tree → X → Type 0} {S : Tree → Z → Type 0} {Q V : Tree → Refusal → Type 0} {old new : D} {x : X} {r : Result Z Stop} (failed : Fault)
      → OnlyReads disk P Q old new (Ok x) → IsErrAnd r (λ s. s ≡ stop_of_fault failed) → (IsTrue disk.tells → P (disk.reads old) x → (refusal : Refusal) → failed ≡ fault.Refused refusal → V (disk.reads old) refusal)
      → OnlyReads disk S V old new r
  reads_fault (fault.Refused refusal) run is why = reads_refusal refusal run is (λ tells p. why tells p refusal refl)
  reads_fault fault.Memory run is why = reads_memory run is

  -- a test that passed
  pub tested_answer : {X Y Z : Type 0} {view : X → Y} {test : Tree → Result Y Refusal} {S : Tree → Z → Type 0} {V : Tree → Refusal → Type 0} {old new : D} {x : X} {z : Z}
      → Tests disk view test old new (Ok x) → (IsTrue disk.tells → test (disk.reads old) ≡ Ok (view x) → S (disk.reads old) z) → OnlyReads disk S V old new (Ok z)
  tested_answer tested is = record { later = tested.later; same = tested.same; ends = λ tells. is tells (tested.found tells) }

  -- a test that stopped, passed on by `?`
  pub tested_stop : {X Y Z : Type 0} {view : X → Y} {test : Tree → Result Y Refusal} {S : Tree → Z → Type 0} {V : Tree → Refusal → Type 0} {old new : D} {e : Stop} {r : Result Z Stop}
      → Tests disk view test old new (Err e) → IsErrAnd r (λ s. s ≡ e) → (IsTrue disk.tells → (refusal : Refusal) → test (disk.reads old) ≡ Err refusal → V (disk.reads old) refusal)
      → OnlyReads disk S V old new r
  tested_stop {view = view} {S = S} {V = V} {old = old} {e = e} {r = r} tested is refuse = record {
    later = tested.later;
    same = tested.same;
    ends = ends_test view disk.tells _ (S (disk.reads old)) (V (disk.reads old)) e r _ _ is refuse tested.found;
  }

  -- want of memory after a test, however it ended
  pub tested_memory : {X Y Z : Type 0} {view : X → Y} {test : Tree → Result Y Refusal} {S : Tree → Z → Type 0} {V : Tree → Refusal → Type 0} {old new : D} {q : Result X Stop} {r : Result Z Stop}
      → Tests disk view test old new q → IsErrAnd r (λ s. s ≡ Memory) → OnlyReads disk S V old new r
  tested_memory {S = S} {V = V} {old = old} {r = r} tested is = record {
    later = tested.later;
    same = tested.same;
    ends = ends_memory disk.tells (S (disk.reads old)) (V (disk.reads old)) r _ _ is;
  }

  -- a refusal after a test, however it ended
  pub tested_refusal : {X Y Z : Type 0} {view : X → Y} {test : Tree → Result Y Refusal} {S : Tree → Z → Type 0} {V : Tree → Refusal → Type 0} {old new : D} {q : Result X Stop} {r : Result Z Stop} (refusal : Refusal)
      → Tests disk view test old new q → IsErrAnd r (λ s. s ≡ Refused refusal) → (IsTrue disk.tells → V (disk.reads old) refusal) → OnlyReads disk S V old new r
  tested_refusal {S = S} {V = V} {old = old} {r = r} refusal tested is why = record {
    later = tested.later;
    same = tested.same;
    ends = ends_refused disk.tells (S (disk.reads old)) (V (disk.reads old)) r refusal _ _ is why;
  }

  -- an answer after a test, however it ended
  pub tested_found : {X Y Z : Type 0} {view : X → Y} {test : Tree → Result Y Refusal} {S : Tree → Z → Type 0} {V : Tree → Refusal → Type 0} {old new : D} {q : Result X Stop} (z : Z)
      → Tests disk view test old new q → (IsTrue disk.tells → S (disk.reads old) z) → OnlyReads disk S V old new (Ok z)
  tested_found z tested is = record { later = tested.later; same = tested.same; ends = is }

  module _ (laws : IsDisk disk) where
    -- no call at all
    pub reads_start : {Z : Type 0} {S : Tree → Z → Type 0} {V : Tree → Refusal → Type 0} (d : D) (z : Z) → (IsTrue disk.tells → S (disk.reads d) z) → OnlyReads disk S V d d (Ok z)
    reads_start d z is = record {
      later = omega arith;
      same = λ tells. record { answer = tt; same = same_start disk d; time = time_start laws d };
      ends = is;
    }

    -- one run after another
    pub reads_then : {X Z : Type 0} {P : Tree → X → Type 0} {S U : Tree → Z → Type 0} {Q V W : Tree → Refusal → Type 0} {old mid new : D} {x : X} {r : Result Z Stop}
        → OnlyReads disk P Q old mid (Ok x) → OnlyReads disk S V mid new r
        → (IsTrue disk.tells → P (disk.reads old) x → (z : Z) → S (disk.reads old) z → U (disk.reads old) z)
        → (IsTrue disk.tells → P (disk.reads old) x → (refusal : Refusal) → V (disk.reads old) refusal → W (disk.reads old) refusal)
        → OnlyReads disk U W old new r
    reads_then {P = P} {S = S} {U = U} {V = V} {W = W} {old = old} {mid = mid} {new = new} {r = r} first then value refuse = record {
      later = omega (arith, first.later, then.later);
      same = λ tells. record {
        answer = tt;
        same = same_on (first.same tells).same (then.same tells).same;
        time = time_on laws (first.same tells).same (first.same tells).time (then.same tells).time;
      };
      ends = ends_weaker disk.tells (S (disk.reads mid)) (U (disk.reads old)) (V (disk.reads mid)) (W (disk.reads old)) r (disk.faults old) (disk.faults mid) (disk.faults new) first.later
          (λ tells z h. value tells (first.ends tells) z (subst (λ (t : Tree). S t z) (first.same tells).same.reads h))
          (λ tells refusal h. refuse tells (first.ends tells) refusal (subst (λ (t : Tree). V t refusal) (first.same tells).same.reads h)) then.ends;
    }
