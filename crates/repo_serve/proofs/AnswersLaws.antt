-- How runs that only read, and may be refused, follow one another.
use Rattle.std.proofs.Common.{◌≡◌, ℕ, ◌≤◌, Bool, IsTrue, Result, Ok, Err, IsErrAnd, sym, subst, arith}
use Rattle.repo_load.specs.cny-base.Stop.{stop_of_fault}
use Rattle.repo_load.specs.cny-base.declared.refusal.Fault.{Fault}
use Rattle.repo_load.specs.cny-base.declared.refusal.Fault.TheVariants as fault
use Rattle.repo_load.specs.cny-base.declared.refusal.Refusal.{Refusal}
use Rattle.repo_load.specs.cny-base.declared.stop.Stop.{Stop}
use Rattle.repo_load.specs.cny-base.declared.stop.Stop.TheVariants.{Refused, Memory, Failed, Damaged, FarFailed, FarDamaged}
use Rattle.repo_load.specs.tree-disk.Tree.{Name, Tree}
use Rattle.repo_load.specs.tree-disk.Disk.{DiskModel, IsDisk}
use Rattle.repo_load.specs.tree-disk.Moments.{same_start, same_on, time_start, time_on}
use Rattle.repo_load.proofs.tree-disk.Moments.{rose_before}
use Rattle.repo_load.specs.Looks.{Ends, Looks}
use Rattle.repo_serve.specs.Answers.{AnswerEnds, Answers}

-- an end that says less, of an earlier count
ends_weaker : {X : Type 0} (told : Bool) (P T : X → Type 0) (R U : Refusal → Type 0) (Q V : Name → Type 0) (r : Result X Stop) (a b c : ℕ) → a ≤ b
    → (IsTrue told → (x : X) → P x → T x) → (IsTrue told → (refusal : Refusal) → R refusal → U refusal) → (IsTrue told → (path : Name) → Q path → V path)
    → AnswerEnds told P R Q r b c → AnswerEnds told T U V r a c
ends_weaker told P T R U Q V (Ok x) a b c le value refused damage ends = λ tells. value tells x (ends tells)
ends_weaker told P T R U Q V (Err (Refused refusal)) a b c le value refused damage ends = λ tells. refused tells refusal (ends tells)
ends_weaker told P T R U Q V (Err (Damaged path)) a b c le value refused damage ends = λ tells. damage tells path (ends tells)
ends_weaker told P T R U Q V (Err Failed) a b c le value refused damage ends = rose_before a b c le ends
ends_weaker told P T R U Q V (Err Memory) a b c le value refused damage ends = tt
ends_weaker told P T R U Q V (Err FarFailed) a b c le value refused damage ends = ends
ends_weaker told P T R U Q V (Err (FarDamaged path)) a b c le value refused damage ends = ends

-- an end of a run that is never refused
ends_of_looks : {X : Type 0} (told : Bool) (P T : X → Type 0) (U : Refusal → Type 0) (Q V : Name → Type 0) (r : Result X Stop) (a c : ℕ)
    → (IsTrue told → (x : X) → P x → T x) → (IsTrue told → (path : Name) → Q path → V path) → Ends told P Q r a c → AnswerEnds told T U V r a c
ends_of_looks told P T U Q V (Ok x) a c value damage ends = λ tells. value tells x (ends tells)
ends_of_looks told P T U Q V (Err (Refused refusal)) a c value damage ends = absurd ends
ends_of_looks told P T U Q V (Err (Damaged path)) a c value damage ends = λ tells. damage tells path (ends tells)
ends_of_looks told P T U Q V (Err Failed) a c value damage ends = ends
ends_of_looks told P T U Q V (Err Memory) a c value damage ends = tt
ends_of_looks told P T U Q V (Err FarFailed) a c value damage ends = ends
ends_of_looks told P T U Q V (Err (FarDamaged path)) a c value damage ends = ends

-- a stop passed on by `?`
ends_stop : {X Z : Type 0} (told : Bool) (P : X → Type 0) (T : Z → Type 0) (R U : Refusal → Type 0) (Q V : Name → Type 0) (e : Stop) (r : Result Z Stop) (a c : ℕ)
    → IsErrAnd r (λ s. s ≡ e) → (IsTrue told → (refusal : Refusal) → R refusal → U refusal) → (IsTrue told → (path : Name) → Q path → V path)
    → AnswerEnds told P R Q (Err e) a c → AnswerEnds told T U V r a c
ends_stop told P T R U Q V e (Ok z) a c is refused damage ends = absurd is
ends_stop {X = X} {Z = Z} told P T R U Q V e (Err s) a c is refused damage ends = subst (λ x. AnswerEnds {X = Z} told T U V (Err x) a c) (sym is) (by e ends)
  where
    by : (e : Stop) → AnswerEnds {X = X} told P R Q (Err e) a c → AnswerEnds {X = Z} told T U V (Err e) a c
    by (Refused refusal) ends = λ tells. refused tells refusal (ends tells)
    by (Damaged path) ends = λ tells. damage tells path (ends tells)
    by Failed ends = ends
    by Memory ends = tt
    by FarFailed ends = ends
    by (FarDamaged path) ends = ends

-- a fault that was met without the disk
ends_fault : {Z : Type 0} (told : Bool) (T : Z → Type 0) (U : Refusal → Type 0) (V : Name → Type 0) (e : Fault) (r : Result Z Stop) (a c : ℕ)
    → IsErrAnd r (λ s. s ≡ stop_of_fault e) → (IsTrue told → (refusal : Refusal) → e ≡ fault.Refused refusal → U refusal) → AnswerEnds told T U V r a c
ends_fault told T U V e (Ok z) a c is refused = absurd is
ends_fault {Z = Z} told T U V e (Err s) a c is refused = subst (λ x. AnswerEnds {X = Z} told T U V (Err x) a c) (sym is) (by e refused)
  where
    by : (e : Fault) → (IsTrue told → (refusal : Refusal) → e ≡ fault.Refused refusal → U refusal) → AnswerEnds {X = Z} told T U V (Err (stop_of_fault e)) a c
    by (fault.Refused refusal) refused = λ tells. refused tells refusal (λ i. fault.Refused refusal)
    by fault.Memory refused = tt

module _ {D : Type 0} {disk : DiskModel D} where
  -- a run that is never refused
  pub answers_of_looks : {X : Type 0} {P T : Tree → X → Type 0} {U : Tree → Refusal → Type 0} {Q V : Tree → Name → Type 0} {old new : D} {r : Result X Stop}
      → Looks disk P Q old new r → (IsTrue disk.tells → (x : X) → P (disk.reads old) x → T (disk.reads old) x) → (IsTrue disk.tells → (path : Name) → Q (disk.reads old) path → V (disk.reads old) path)
      → Answers disk T U V old new r
  answers_of_looks {P = P} {T = T} {U = U} {Q = Q} {V = V} {old = old} {r = r} looks value damage = record {
    later = looks.later;
    same = looks.same;
    ends = ends_of_looks disk.tells (P (disk.reads old)) (T (disk.reads old)) (U (disk.reads old)) (Q (disk.reads old)) (V (disk.reads old)) r _ _ value damage looks.ends;
  }

  -- the same of what it finds
  pub from_looks : {X : Type 0} {P : Tree → X → Type 0} {Q : Tree → Name → Type 0} {old new : D} {r : Result X Stop} → Looks disk P Q old new r → Answers disk P (λ tree refusal. ⊥) Q old new r
  from_looks looks = answers_of_looks looks (λ tells x p. p) (λ tells path p. p)

  -- a run that stopped, passed on by `?`
  pub answers_stop : {X Z : Type 0} {P : Tree → X → Type 0} {T : Tree → Z → Type 0} {R U : Tree → Refusal → Type 0} {Q V : Tree → Name → Type 0} {old new : D} {e : Stop} {r : Result Z Stop}
      → Answers disk P R Q old new (Err e) → IsErrAnd r (λ s. s ≡ e) → (IsTrue disk.tells → (refusal : Refusal) → R (disk.reads old) refusal → U (disk.reads old) refusal)
      → (IsTrue disk.tells → (path : Name) → Q (disk.reads old) path → V (disk.reads old) path) → Answers disk T U V old new r
  answers_stop {P = P} {T = T} {R = R} {U = U} {Q = Q} {V = V} {old = old} {e = e} {r = r} run is refused damage = record {
    later = run.later;
    same = run.same;
    ends = ends_stop disk.tells (P (disk.reads old)) (T (disk.reads old)) (R (disk.reads old)) (U (disk.reads old)) (Q (disk.reads old)) (V (disk.reads old)) e r _ _ is refused damage run.ends;
  }

  -- what is answered, by another term
  pub answers_is : {X : Type 0} {P : Tree → X → Type 0} {R : Tree → Refusal → Type 0} {Q : Tree → Name → Type 0} {old new : D} {x y : X} → x ≡ y → Answers disk P R Q old new (Ok x) → Answers disk P R Q old new (Ok y)
  answers_is {X = X} {P = P} {R = R} {Q = Q} {old = old} {new = new} same run = subst (λ (z : X). Answers disk P R Q old new (Ok z)) same run

  -- an answer without another call
  pub answers_value : {X Z : Type 0} {P : Tree → X → Type 0} {T : Tree → Z → Type 0} {R U : Tree → Refusal → Type 0} {Q V : Tree → Name → Type 0} {old new : D} {x : X} {z : Z}
      → Answers disk P R Q old new (Ok x) → (IsTrue disk.tells → P (disk.reads old) x → T (disk.reads old) z) → Answers disk T U V old new (Ok z)
  answers_value run is = record { later = run.later; same = run.same; ends = λ tells. is tells (run.ends tells) }

  -- a fault without another call
  pub answers_fault : {X Z : Type 0} {P : Tree → X → Type 0} {T : Tree → Z → Type 0} {R U : Tree → Refusal → Type 0} {Q V : Tree → Name → Type 0} {old new : D} {x : X} {e : Fault} {r : Result Z Stop}
      → Answers disk P R Q old new (Ok x) → IsErrAnd r (λ s. s ≡ stop_of_fault e)
      → (IsTrue disk.tells → P (disk.reads old) x → (refusal : Refusal) → e ≡ fault.Refused refusal → U (disk.reads old) refusal) → Answers disk T U V old new r
  answers_fault {T = T} {U = U} {V = V} {old = old} {e = e} {r = r} run is refused = record {
    later = run.later;
    same = run.same;
    ends = ends_fault disk.tells (T (disk.reads old)) (U (disk.reads old)) (V (disk.reads old)) e r _ _ is (λ tells. refused tells (run.ends tells));
  }

  -- want of memory without another call
  pub answers_memory : {X Z : Type 0} {P : Tree → X → Type 0} {T : Tree → Z → Type 0} {R U : Tree → Refusal → Type 0} {Q V : Tree → Name → Type 0} {old new : D} {x : X} {r : Result Z Stop}
      → Answers disk P R Q old new (Ok x) → IsErrAnd r (λ s. s ≡ Memory) → Answers disk T U V old new r
  answers_memory {P = P} {T = T} {R = R} {U = U} {Q = Q} {V = V} {x = x} {r = r} run is = answers_fault {e = fault.Memory} {r = r} run is (λ tells p refusal no. absurd (cc no))

  module _ (laws : IsDisk disk) where
    -- no call at all
    pub answers_start : {Z : Type 0} {P : Tree → Z → Type 0} {R : Tree → Refusal → Type 0} {Q : Tree → Name → Type 0} (d : D) (z : Z) → (IsTrue disk.tells → P (disk.reads d) z) → Answers disk P R Q d d (Ok z)
    answers_start d z is = record {
      later = omega arith;
      same = λ tells. record { answer = tt; same = same_start disk d; time = time_start laws d };
      ends = is;
    }

    -- the disk as it is
    pub looked : (d : D) → Answers {X = Unit {0}} disk (λ tree x. Unit {0}) (λ tree refusal. ⊥) (λ tree path. ⊥) d d (Ok tt)
    looked d = answers_start d tt (λ tells. tt)

    -- one run after another
    pub answers_then : {X Z : Type 0} {P : Tree → X → Type 0} {S T : Tree → Z → Type 0} {R R' U : Tree → Refusal → Type 0} {Q Q' V : Tree → Name → Type 0} {old mid new : D} {x : X} {r : Result Z Stop}
        → Answers disk P R Q old mid (Ok x) → Answers disk S R' Q' mid new r
        → (IsTrue disk.tells → P (disk.reads old) x → (z : Z) → S (disk.reads old) z → T (disk.reads old) z)
        → (IsTrue disk.tells → P (disk.reads old) x → (refusal : Refusal) → R' (disk.reads old) refusal → U (disk.reads old) refusal)
        → (IsTrue disk.tells → P (disk.reads old) x → (path : Name) → Q' (disk.reads old) path → V (disk.reads old) path)
        → Answers disk T U V old new r
    answers_then {S = S} {T = T} {R' = R'} {U = U} {Q' = Q'} {V = V} {old = old} {mid = mid} {r = r} first then value refused damage = record {
      later = omega (arith, first.later, then.later);
      same = λ tells. record {
        answer = tt;
        same = same_on (first.same tells).same (then.same tells).same;
        time = time_on laws (first.same tells).same (first.same tells).time (then.same tells).time;
      };
      ends = ends_weaker disk.tells (S (disk.reads mid)) (T (disk.reads old)) (R' (disk.reads mid)) (U (disk.reads old)) (Q' (disk.reads mid)) (V (disk.reads old)) r _ _ _ first.later
          (λ tells z p. value tells (first.ends tells) z (subst (λ (t : Tree). S t z) (first.same tells).same.reads p))
          (λ tells refusal p. refused tells (first.ends tells) refusal (subst (λ (t : Tree). R' t refusal) (first.same tells).same.reads p))
          (λ tells path p. damage tells (first.ends tells) path (subst (λ (t : Tree). Q' t path) (first.same tells).same.reads p)) then.ends;
    }
