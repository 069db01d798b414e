-- How runs of calls that only read a disk and search contents follow one another.
use Rattle.std.proofs.Common.{◌≡◌, ℕ, Bool, IsTrue, Result, Ok, Err, IsErrAnd, sym, subst, arith}
use Rattle.tree_disk.specs.cny-base.declared.refusal.Refusal.{Refusal}
use Rattle.tree_disk.specs.cny-base.declared.stop.Stop.{Stop}
use Rattle.tree_disk.specs.cny-base.declared.stop.Stop.TheVariants.{Refused, Memory, Failed, Damaged, FarFailed, FarDamaged}
use Rattle.tree_disk.specs.Tree.{Name, Tree}
use Rattle.tree_disk.specs.Disk.{DiskModel, IsDisk}
use Rattle.tree_disk.specs.Moments.{same_start, same_on, time_start, time_on}
use Rattle.tree_disk.proofs.Moments.{rose_before}
use Rattle.content_store.specs.Contents.{Answers, ContentsModel, IsSource}
use Rattle.content_store.specs.Searches.{IsFarDamage, SearchEnds, Searches}
use Rattle.content_store.proofs.Sources.{keeps_start, keeps_then}

-- ---- ends

-- an end that says less, of earlier counts
ends_weaker : {X : Type 0} (told : Bool) (P S : X → Type 0) (Q V : Refusal → Type 0) (R U : Name → Type 0) (rose rose' far far' : Type 0) (r : Result X Stop)
    → (IsTrue told → (x : X) → P x → S x) → ((refusal : Refusal) → Q refusal → V refusal) → ((path : Name) → R path → U path) → (rose → rose') → (far → far')
    → SearchEnds told P Q R rose far r → SearchEnds told S V U rose' far' r
ends_weaker told P S Q V R U rose rose' far far' (Ok x) value refuse damage fails far_fails ends = λ tells. value tells x (ends tells)
ends_weaker told P S Q V R U rose rose' far far' (Err (Refused refusal)) value refuse damage fails far_fails ends = refuse refusal ends
ends_weaker told P S Q V R U rose rose' far far' (Err Failed) value refuse damage fails far_fails ends = fails ends
ends_weaker told P S Q V R U rose rose' far far' (Err Memory) value refuse damage fails far_fails ends = tt
ends_weaker told P S Q V R U rose rose' far far' (Err (Damaged path)) value refuse damage fails far_fails ends = ends
ends_weaker told P S Q V R U rose rose' far far' (Err FarFailed) value refuse damage fails far_fails ends = far_fails ends
ends_weaker told P S Q V R U rose rose' far far' (Err (FarDamaged path)) value refuse damage fails far_fails ends = damage path ends

-- a stop passed on by `?`
ends_stop : {X Z : Type 0} (told : Bool) (P : X → Type 0) (S : Z → Type 0) (Q V : Refusal → Type 0) (R U : Name → Type 0) (rose far : Type 0) (e : Stop) (r : Result Z Stop)
    → IsErrAnd r (λ s. s ≡ e) → ((refusal : Refusal) → Q refusal → V refusal) → ((path : Name) → R path → U path)
    → SearchEnds told P Q R rose far (Err e) → SearchEnds told S V U rose far r
ends_stop told P S Q V R U rose far e (Ok z) is refuse damage ends = absurd is
ends_stop {X = X} {Z = Z} told P S Q V R U rose far e (Err s) is refuse damage ends = subst (λ x. SearchEnds {X = Z} told S V U rose far (Err x)) (sym is) (by e ends)
  where
    by : (e : Stop) → SearchEnds {X = X} told P Q R rose far (Err e) → SearchEnds {X = Z} told S V U rose far (Err e)
    by (Refused refusal) ends = refuse refusal ends
    by Failed ends = ends
    by Memory ends = tt
    by (Damaged path) ends = ends
    by FarFailed ends = ends
    by (FarDamaged path) ends = damage path ends

ends_memory : {Z : Type 0} (told : Bool) (S : Z → Type 0) (Q : Refusal → Type 0) (R : Name → Type 0) (rose far : Type 0) (r : Result Z Stop) → IsErrAnd r (λ s. s ≡ Memory) → SearchEnds told S Q R rose far r
ends_memory told S Q R rose far (Ok z) is = absurd is
ends_memory {Z = Z} told S Q R rose far (Err s) is = subst (λ x. SearchEnds {X = Z} told S Q R rose far (Err x)) (sym is) tt

ends_refused : {Z : Type 0} (told : Bool) (S : Z → Type 0) (Q : Refusal → Type 0) (R : Name → Type 0) (rose far : Type 0) (r : Result Z Stop) (refusal : Refusal)
    → IsErrAnd r (λ s. s ≡ Refused refusal) → Q refusal → SearchEnds told S Q R rose far r
ends_refused told S Q R rose far (Ok z) refusal is why = absurd is
ends_refused {Z = Z} told S Q R rose far (Err s) refusal is why = subst (λ x. SearchEnds {X = Z} told S Q R rose far (Err x)) (sym is) why

-- ---- runs

module _ {D C : Type 0} {disk : DiskModel D} {contents : ContentsModel C} where
  -- it may say less
  pub searches_weaker : {X : Type 0} {P S : Answers → Tree → X → Type 0} {Q V : Bool → Tree → Refusal → Type 0} {R U : Bool → Answers → Tree → Type 0} {old new : D} {far far' : C} {r : Result X Stop}
      → Searches disk contents P Q R old new far far' r
      → (IsTrue disk.tells → (x : X) → P (contents.answers far) (disk.reads old) x → S (contents.answers far) (disk.reads old) x)
      → ((refusal : Refusal) → Q disk.tells (disk.reads old) refusal → V disk.tells (disk.reads old) refusal)
      → (R disk.tells (contents.answers far) (disk.reads old) → U disk.tells (contents.answers far) (disk.reads old))
      → Searches disk contents S V U old new far far' r
  searches_weaker {P = P} {S = S} {Q = Q} {V = V} {old = old} {far = far} {r = r} run value refuse damage = record {
    later = run.later;
    same = run.same;
    keeps = run.keeps;
    ends = ends_weaker disk.tells (P (contents.answers far) (disk.reads old)) (S (contents.answers far) (disk.reads old)) (Q disk.tells (disk.reads old)) (V disk.tells (disk.reads old)) _ _ _ _ _ _ r
        value refuse (λ path h. record { damaged = h.damaged; lacking = λ told. damage (h.lacking told) }) (λ h. h) (λ h. h) run.ends;
  }

  -- a run that stopped, passed on by `?`
  pub searches_stop : {X Z : Type 0} {P : Answers → Tree → X → Type 0} {S : Answers → Tree → Z → Type 0} {Q V : Bool → Tree → Refusal → Type 0} {R U : Bool → Answers → Tree → Type 0} {old new : D} {far far' : C} {e : Stop} {r : Result Z Stop}
      → Searches disk contents P Q R old new far far' (Err e) → IsErrAnd r (λ s. s ≡ e)
      → ((refusal : Refusal) → Q disk.tells (disk.reads old) refusal → V disk.tells (disk.reads old) refusal)
      → (R disk.tells (contents.answers far) (disk.reads old) → U disk.tells (contents.answers far) (disk.reads old))
      → Searches disk contents S V U old new far far' r
  searches_stop {P = P} {S = S} {Q = Q} {V = V} {R = R} {U = U} {old = old} {far = far} {e = e} {r = r} run is refuse damage = record {
    later = run.later;
    same = run.same;
    keeps = run.keeps;
    ends = ends_stop disk.tells (P (contents.answers far) (disk.reads old)) (S (contents.answers far) (disk.reads old)) (Q disk.tells (disk.reads old)) (V disk.tells (disk.reads old))
        (IsFarDamage contents (λ answers. R disk.tells answers (disk.reads old)) far) (IsFarDamage contents (λ answers. U disk.tells answers (disk.reads old)) far) _ _ e r is refuse
        (λ path h. record { damaged = h.damaged; lacking = λ told. damage (h.lacking told) }) run.ends;
  }

  -- an answer without another call
  pub searches_answer : {X Z : Type 0} {P : Answers → Tree → X → Type 0} {S : Answers → Tree → Z → Type 0} {Q V : Bool → Tree → Refusal → Type 0} {R U : Bool → Answers → Tree → Type 0} {old new : D} {far far' : C} {x : X} {z : Z}
      → Searches disk contents P Q R old new far far' (Ok x)
      → (IsTrue disk.tells → P (contents.answers far) (disk.reads old) x → S (contents.answers far) (disk.reads old) z)
      → Searches disk contents S V U old new far far' (Ok z)
  searches_answer run is = record { later = run.later; same = run.same; keeps = run.keeps; ends = λ tells. is tells (run.ends tells) }

  -- a refusal without another call
  pub searches_refusal : {X Z : Type 0} {P : Answers → Tree → X → Type 0} {S : Answers → Tree → Z → Type 0} {Q V : Bool → Tree → Refusal → Type 0} {R U : Bool → Answers → Tree → Type 0} {old new : D} {far far' : C} {q : Result X Stop} {r : Result Z Stop} (refusal : Refusal)
      → Searches disk contents P Q R old new far far' q → IsErrAnd r (λ s. s ≡ Refused refusal) → V disk.tells (disk.reads old) refusal
      → Searches disk contents S V U old new far far' r
  searches_refusal {S = S} {V = V} {U = U} {old = old} {far = far} {r = r} refusal run is why = record {
    later = run.later;
    same = run.same;
    keeps = run.keeps;
    ends = ends_refused disk.tells (S (contents.answers far) (disk.reads old)) (V disk.tells (disk.reads old)) (IsFarDamage contents (λ answers. U disk.tells answers (disk.reads old)) far) _ _ r refusal is why;
  }

  -- want of memory after a run, however it ended
  pub searches_memory : {X Z : Type 0} {P : Answers → Tree → X → Type 0} {S : Answers → Tree → Z → Type 0} {Q V : Bool → Tree → Refusal → Type 0} {R U : Bool → Answers → Tree → Type 0} {old new : D} {far far' : C} {q : Result X Stop} {r : Result Z Stop}
      → Searches disk contents P Q R old new far far' q → IsErrAnd r (λ s. s ≡ Memory) → Searches disk contents S V U old new far far' r
  searches_memory {S = S} {V = V} {U = U} {old = old} {far = far} {r = r} run is = record {
    later = run.later;
    same = run.same;
    keeps = run.keeps;
    ends = ends_memory disk.tells (S (contents.answers far) (disk.reads old)) (V disk.tells (disk.reads old)) (IsFarDamage contents (λ answers. U disk.tells answers (disk.reads old)) far) _ _ r is;
  }

  module _ (source : IsSource contents) (laws : IsDisk disk) where
    -- no call at all
    pub searches_start : {Z : Type 0} {S : Answers → Tree → Z → Type 0} {Q : Bool → Tree → Refusal → Type 0} {R : Bool → Answers → Tree → Type 0} (d : D) (far : C) (z : Z)
        → (IsTrue disk.tells → S (contents.answers far) (disk.reads d) z) → Searches disk contents S Q R d d far far (Ok z)
    searches_start d far z is = record {
      later = omega arith;
      same = λ tells. record { answer = tt; same = same_start disk d; time = time_start laws d };
      keeps = keeps_start source far;
      ends = is;
    }

    -- one run after another, by what both find
    pub searches_on : {X Z : Type 0} {P : Answers → Tree → X → Type 0} {S U : Answers → Tree → Z → Type 0} {V Q W : Bool → Tree → Refusal → Type 0} {L M R : Bool → Answers → Tree → Type 0} {old mid new : D} {far mid_far far' : C} {x : X} {r : Result Z Stop}
        → Searches disk contents P V L old mid far mid_far (Ok x) → Searches disk contents S Q M mid new mid_far far' r
        → (IsTrue disk.tells → (z : Z) → S (contents.answers mid_far) (disk.reads mid) z → U (contents.answers far) (disk.reads old) z)
        → ((refusal : Refusal) → Q disk.tells (disk.reads mid) refusal → W disk.tells (disk.reads old) refusal)
        → (M disk.tells (contents.answers mid_far) (disk.reads mid) → R disk.tells (contents.answers far) (disk.reads old))
        → Searches disk contents U W R old new far far' r
    searches_on {S = S} {U = U} {Q = Q} {W = W} {old = old} {mid = mid} {new = new} {far = far} {mid_far = mid_far} {far' = far'} {r = r} first then value refuse damage = record {
      later = omega (arith, first.later, then.later);
      same = λ tells. record {
        answer = tt;
        same = same_on (first.same tells).same (then.same tells).same;
        time = time_on laws (first.same tells).same (first.same tells).time (then.same tells).time;
      };
      keeps = keeps_then source first.keeps then.keeps;
      ends = ends_weaker disk.tells (S (contents.answers mid_far) (disk.reads mid)) (U (contents.answers far) (disk.reads old)) (Q disk.tells (disk.reads mid)) (W disk.tells (disk.reads old)) _ _ _ _ _ _ r
          value refuse (λ path h. record { damaged = λ told. first.keeps.damage told path (h.damaged told); lacking = λ told. damage (h.lacking told) })
          (λ rose. rose_before (disk.faults old) (disk.faults mid) (disk.faults new) first.later rose)
          (λ rose. rose_before (contents.faults far) (contents.faults mid_far) (contents.faults far') first.keeps.later rose) then.ends;
    }
