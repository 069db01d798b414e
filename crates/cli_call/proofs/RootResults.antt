-- What a call of the root's disk ended with, where it is an end of a command.
use Rattle.std.proofs.Common.{◌≡◌, Result, Ok, Err}
use Rattle.cny_laws.specs.system-core.cny-base.declared.stop.Stop.{Stop}
use Rattle.cny_laws.specs.declared.failure.Failure.{Failure}
use Rattle.cny_laws.specs.Stops.{root_result}

pub same_failure : {X : Type 0} {f e : Failure} → ◌≡◌ {A = Result X Failure} (Err f) (Err e) → f ≡ e
same_failure h = cc h

pub root_ok : {X : Type 0} (r : Result X Stop) (x : X) → root_result r ≡ Ok x → r ≡ Ok x
root_ok (Ok y) x is = cc is
root_ok (Err e) x is = absurd (cc is)
