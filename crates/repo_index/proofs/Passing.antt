-- What an error that was passed on by `?` shows.
use Rattle.std.proofs.Common.{◌≡◌, Result, Ok, Err, sym, subst}
use Rattle.std.specs.Prelude.{IfErr, IsErrAnd}

pub handed_on : {X E : Type 0} (P : E → Type 0) (s : Result X E) (f : E) → IsErrAnd s (λ e. e ≡ f) → P f → IfErr s P
handed_on P (Ok x) f is h = absurd is
handed_on P (Err e) f is h = subst P (sym is) h
