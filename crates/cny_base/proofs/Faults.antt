-- Why a call stopped, handed on.
use Rattle.cny_base.specs.declared.refusal.Fault.{Fault}
use Rattle.cny_base.specs.declared.stop.Stop.TheVariants.{Memory}
use Rattle.cny_base.specs.declared.stop.Stop.{Stop}
use Rattle.std.proofs.Common.{Err, IfNone, None, Ok, Option, Result, Some, subst, sym, ◌∙◌, ◌≡◌, OnErr}
use Rattle.std.proofs.lemmas.Result.{err_from_is_err_and}
use Rattle.std.specs.Prelude.{IfErr, IsErrAnd}

-- want of memory, passed on by `?`
pub passed_memory : {X : Type 0} (e : Stop) (r : Result X Stop) → IsErrAnd r (λ s. s ≡ e) → e ≡ Memory → IsErrAnd r (λ s. s ≡ Memory)
passed_memory e (Ok x) is memory = is
passed_memory e (Err s) is memory = is ∙ memory

pub if_err_from : {T E : Type 0} (P : E → Type 0) (r : Result T E) (met : E) → ((e : E) × (r ≡ Err e) × (e ≡ met)) → P met → IfErr r P
if_err_from P r met given is = subst (λ x. IfErr x P) (sym given.1) (subst P (sym given.2) is)

-- a fault that is handed on
pub handed_on : {T : Type 0} (P : Fault → Type 0) (r : Result T Fault) (fault : Fault) → IsErrAnd r (λ y. y ≡ fault) → P fault → IfErr r P
handed_on {T} P r fault handed is =
    let same = err_from_is_err_and r handed in
    subst (λ (other : Result T Fault). IfErr other P) (sym same.1) (subst P (sym same.2) is)

-- a test that stopped
abbrev pub stopped : Fault → Result (Unit {0}) Fault
stopped e = Err e

pub if_none : {T : Type 0} (r : Option T) (P : Type 0) → P → IfNone r P
if_none None P p = p
if_none (Some x) P p = tt

pub on_err : {T E P : Type 0} (r : Result T E) → P → OnErr r P
on_err (Ok x) h = tt
on_err (Err e) h = h

-- a fault passed on by `?`
pub passed_on : {X E : Type 0} (P : E → Type 0) (e : E) (r : Result X E) → P e → IsErrAnd r (λ s. s ≡ e) → IfErr r P
passed_on P e (Ok x) holds is = tt
passed_on P e (Err s) holds is = subst P (sym is) holds
