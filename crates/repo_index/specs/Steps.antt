-- What the steps answer.
use Rattle.std.specs.Prelude.{◌≡◌, Result, Err}
use Rattle.trove_stream.specs.cny-base.declared.refusal.Fault.{Fault}
use Rattle.trove_stream.specs.cny-base.declared.refusal.Fault.TheVariants.{Refused, Memory}
use Rattle.trove_stream.specs.cny-base.declared.refusal.Refusal.{Refusal}
pub use Rattle.cny_version.specs.cny-base.Refusals.{IsRefusalOrMemory}

-- the refusal of a result; or memory ran out
abbrev pub IsErrOrMemory : {A : Type 0} → Result A Refusal → Fault → Type 0
IsErrOrMemory expected (Refused refused) = expected ≡ Err refused
IsErrOrMemory expected Memory = Unit {0}
