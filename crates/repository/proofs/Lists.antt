-- Tests of lists, and failures one after another.
use Rattle.std.proofs.Common.{◌≡◌, Bool, true, false, cond, ◌||◌, List, [], ◌∷◌, ◌++◌, Option, Some, None, is_some, Result, Ok, Err, IsErrAnd, refl, sym, subst}
use Rattle.std.specs.Option.{option_or}
use Rattle.repo_load.specs.cny-base.declared.refusal.Refusal.{Refusal}
use Rattle.repo_load.specs.trove-parts.declared.id.TroveId.{TroveId}
use Rattle.repo_load.specs.trove-stream.declared.parts.TroveParts.{TroveParts}
use Rattle.repo_index.specs.Catalogue.{found, has_id}
use Rattle.repo_load.specs.cny-base.declared.refusal.Fault.{Fault}
use Rattle.repo_load.specs.cny-base.declared.refusal.Fault.TheVariants as fault
use Rattle.repository.specs.Verdict.{IsVerdict}

-- ---- what is found

pub some_append : (id : TroveId) (a b : List TroveParts) → is_some (found id (a ++ b)) ≡ (is_some (found id a) || is_some (found id b))
some_append id [] b = refl
some_append id (t ∷ a) b = by (has_id id t) (some_append id a b)
  where
    by : (p : Bool) → is_some (found id (a ++ b)) ≡ (is_some (found id a) || is_some (found id b))
        → is_some (cond p (Some t) (found id (a ++ b))) ≡ (is_some (cond p (Some t) (found id a)) || is_some (found id b))
    by true rest = refl
    by false rest = rest

-- ---- tests one after another, by why they fail

pub then_none : {Why : Type 0} (a b : Option Why) → option_or a b ≡ None → (a ≡ None) × (b ≡ None)
then_none None b h = (refl, h)
then_none (Some why) b h = absurd (cc h)

pub then_append : {Why : Type 0} (a b c : Option Why) → option_or a (option_or b c) ≡ option_or (option_or a b) c
then_append None b c = refl
then_append (Some why) b c = refl

-- the first failure is that of both
pub then_first : {Why : Type 0} (a b : Option Why) (why : Why) → a ≡ Some why → option_or a b ≡ Some why
then_first None b why is = absurd (cc is)
then_first (Some other) b why is = is

pub then_second : {Why : Type 0} (a b : Option Why) → a ≡ None → option_or a b ≡ b
then_second None b is = refl
then_second (Some why) b is = absurd (cc is)

-- ---- verdicts

-- a verdict passed on by `?`
pub verdict_stop : (test goal : Option Refusal) (e : Fault) (r : Result (Unit {0}) Fault) → IsVerdict {X = Unit {0}} test (Err e) → IsErrAnd r (λ s. s ≡ e) → ((refusal : Refusal) → test ≡ Some refusal → goal ≡ Some refusal) → IsVerdict goal r
verdict_stop test goal e (Ok y) verdict is so = absurd is
verdict_stop test goal e (Err s) verdict is so = subst (λ x. IsVerdict {X = Unit {0}} goal (Err x)) (sym is) (by e verdict)
  where
    by : (e : Fault) → IsVerdict {X = Unit {0}} test (Err e) → IsVerdict {X = Unit {0}} goal (Err e)
    by (fault.Refused refusal) verdict = so refusal verdict
    by fault.Memory verdict = tt
