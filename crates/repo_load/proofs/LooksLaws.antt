-- How runs of calls that only read follow one another.
use Rattle.std.proofs.Common.{◌≡◌, ℕ, ◌≤◌, Bool, IsTrue, Result, Ok, Err, IsErrAnd, sym, subst, arith}
use Rattle.repo_index.specs.cny-base.declared.stop.Stop.{Stop}
use Rattle.repo_index.specs.cny-base.declared.stop.Stop.TheVariants.{Refused, Memory, Failed, Damaged, FarFailed, FarDamaged}
use Rattle.journal_log.specs.tree-disk.Tree.{Name, Tree}
use Rattle.journal_log.specs.tree-disk.Disk.{DiskModel, IsDisk}
use Rattle.journal_log.specs.tree-disk.Moments.{same_start, same_on, time_start, time_on}
use Rattle.journal_log.proofs.tree-disk.Moments.{rose_before}
use Rattle.repo_load.specs.Looks.{Ends, Looks}

-- an end that says less, of an earlier count
ends_weaker : {X : Type 0} (told : Bool) (P R : X → Type 0) (Q S : Name → Type 0) (r : Result X Stop) (a b c : ℕ) → a ≤ b
    → (IsTrue told → (x : X) → P x → R x) → (IsTrue told → (path : Name) → Q path → S path)
    → Ends told P Q r b c → Ends told R S r a c
ends_weaker told P R Q S (Ok x) a b c le value damage ends = λ tells. value tells x (ends tells)
ends_weaker told P R Q S (Err (Damaged path)) a b c le value damage ends = λ tells. damage tells path (ends tells)
ends_weaker told P R Q S (Err Failed) a b c le value damage ends = rose_before a b c le ends
ends_weaker told P R Q S (Err Memory) a b c le value damage ends = tt
ends_weaker told P R Q S (Err (Refused refusal)) a b c le value damage ends = ends
ends_weaker told P R Q S (Err FarFailed) a b c le value damage ends = ends
ends_weaker told P R Q S (Err (FarDamaged path)) a b c le value damage ends = ends

-- a stop passed on by `?`
ends_stop : {X Z : Type 0} (told : Bool) (P : X → Type 0) (R : Z → Type 0) (Q S : Name → Type 0) (e : Stop) (r : Result Z Stop) (a c : ℕ)
    → IsErrAnd r (λ s. s ≡ e) → (IsTrue told → (path : Name) → Q path → S path) → Ends told P Q (Err e) a c → Ends told R S r a c
ends_stop told P R Q S e (Ok z) a c is damage ends = absurd is
ends_stop {X = X} {Z = Z} told P R Q S e (Err s) a c is damage ends = subst (λ x. Ends {X = Z} told R S (Err x) a c) (sym is) (by e ends)
  where
    by : (e : Stop) → Ends {X = X} told P Q (Err e) a c → Ends {X = Z} told R S (Err e) a c
    by (Damaged path) ends = λ tells. damage tells path (ends tells)
    by Failed ends = ends
    by Memory ends = tt
    by (Refused refusal) ends = ends
    by FarFailed ends = ends
    by (FarDamaged path) ends = ends

ends_memory : {Z : Type 0} (told : Bool) (R : Z → Type 0) (S : Name → Type 0) (r : Result Z Stop) (a c : ℕ) → IsErrAnd r (λ s. s ≡ Memory) → Ends told R S r a c
ends_memory told R S (Ok z) a c is = absurd is
ends_memory {Z = Z} told R S (Err s) a c is = subst (λ x. Ends {X = Z} told R S (Err x) a c) (sym is) tt

module _ {D : Type 0} {disk : DiskModel D} where
  -- a run that stopped, passed on by `?`
  pub looks_stop : {X Z : Type 0} {P : Tree → X → Type 0} {R : Tree → Z → Type 0} {Q S : Tree → Name → Type 0} {old new : D} {e : Stop} {r : Result Z Stop}
      → Looks disk P Q old new (Err e) → IsErrAnd r (λ s. s ≡ e) → (IsTrue disk.tells → (path : Name) → Q (disk.reads old) path → S (disk.reads old) path)
      → Looks disk R S old new r
  looks_stop {P = P} {R = R} {Q = Q} {S = S} {old = old} {e = e} {r = r} looks is damage = record {
    later = looks.later;
    same = looks.same;
    ends = ends_stop disk.tells (P (disk.reads old)) (R (disk.reads old)) (Q (disk.reads old)) (S (disk.reads old)) e r _ _ is damage looks.ends;
  }

  -- an answer without another call
  pub looks_answer : {X Z : Type 0} {P : Tree → X → Type 0} {R : Tree → Z → Type 0} {Q S : Tree → Name → Type 0} {old new : D} {x : X} {z : Z}
      → Looks disk P Q old new (Ok x) → (IsTrue disk.tells → P (disk.reads old) x → R (disk.reads old) z) → Looks disk R S old new (Ok z)
  looks_answer looks is = record { later = looks.later; same = looks.same; ends = λ tells. is tells (looks.ends tells) }

  -- damage without another call
  pub looks_damage : {X Z : Type 0} {P : Tree → X → Type 0} {R : Tree → Z → Type 0} {Q S : Tree → Name → Type 0} {old new : D} {x : X} {path : Name}
      → Looks disk P Q old new (Ok x) → (IsTrue disk.tells → P (disk.reads old) x → S (disk.reads old) path) → Looks disk R S old new (Err (Damaged path))
  looks_damage looks is = record { later = looks.later; same = looks.same; ends = λ tells. is tells (looks.ends tells) }

  -- want of memory after a run, however it ended
  pub looks_memory : {X Z : Type 0} {P : Tree → X → Type 0} {R : Tree → Z → Type 0} {Q S : Tree → Name → Type 0} {old new : D} {q : Result X Stop} {r : Result Z Stop}
      → Looks disk P Q old new q → IsErrAnd r (λ s. s ≡ Memory) → Looks disk R S old new r
  looks_memory {R = R} {S = S} {old = old} {r = r} looks is = record {
    later = looks.later;
    same = looks.same;
    ends = ends_memory disk.tells (R (disk.reads old)) (S (disk.reads old)) r _ _ is;
  }

  module _ (laws : IsDisk disk) where
    -- no call at all
    pub looks_start : {Z : Type 0} {P : Tree → Z → Type 0} {Q : Tree → Name → Type 0} (d : D) (z : Z) → (IsTrue disk.tells → P (disk.reads d) z) → Looks disk P Q d d (Ok z)
    looks_start d z is = record {
      later = omega arith;
      same = λ tells. record { answer = tt; same = same_start disk d; time = time_start laws d };
      ends = is;
    }

    -- one run after another
    pub looks_then : {X Z : Type 0} {P : Tree → X → Type 0} {R T : Tree → Z → Type 0} {Q S U : Tree → Name → Type 0} {old mid new : D} {x : X} {r : Result Z Stop}
        → Looks disk P Q old mid (Ok x) → Looks disk R S mid new r
        → (IsTrue disk.tells → P (disk.reads old) x → (z : Z) → R (disk.reads old) z → T (disk.reads old) z)
        → (IsTrue disk.tells → P (disk.reads old) x → (path : Name) → S (disk.reads old) path → U (disk.reads old) path)
        → Looks disk T U old new r
    looks_then {X = X} {Z = Z} {P = P} {R = R} {T = T} {Q = Q} {S = S} {U = U} {old = old} {mid = mid} {new = new} {x = x} {r = r} first then value damage = record {
      later = omega (arith, first.later, then.later);
      same = λ tells. record {
        answer = tt;
        same = same_on (first.same tells).same (then.same tells).same;
        time = time_on laws (first.same tells).same (first.same tells).time (then.same tells).time;
      };
      ends = ends_weaker disk.tells (R (disk.reads mid)) (T (disk.reads old)) (S (disk.reads mid)) (U (disk.reads old)) r _ _ _ first.later
          (λ tells z p. value tells (first.ends tells) z (subst (λ (t : Tree). R t z) (first.same tells).same.reads p))
          (λ tells path p. damage tells (first.ends tells) path (subst (λ (t : Tree). S t path) (first.same tells).same.reads p)) then.ends;
    }
