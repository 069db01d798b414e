-- Shared lemmas: passing.
use Rattle.std.proofs.Common.{Err, Ok, Result, subst, sym, ◌≡◌}
use Rattle.std.specs.Prelude.{IsErrAnd}

pub err_is : {X E : Type 0} (P : Result X E → Type 0) (s : Result X E) (f : E) → IsErrAnd s (λ e. e ≡ f) → P (Err f) → P s
err_is P (Ok x) f is h = absurd is
err_is P (Err e) f is h = subst (λ x. P (Err x)) (sym is) h
