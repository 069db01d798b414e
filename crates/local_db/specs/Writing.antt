-- Why a database isn't written.
use Rattle.std.specs.Prelude.{◌≡◌, ℕ, ◌<◌}
use Rattle.trove_stream.specs.cny-base.declared.limits.TheConstants.{DATABASE_LIMIT}
use Rattle.trove_stream.specs.cny-base.declared.refusal.Fault.{Fault}
use Rattle.trove_stream.specs.cny-base.declared.refusal.Fault.TheVariants.{Refused, Memory}
use Rattle.trove_stream.specs.cny-base.declared.refusal.Refusal.TheVariants.{TooLarge}
use Rattle.trove_stream.specs.cny-base.declared.refusal.What.TheVariants.{Database}

-- it has so many bytes, which are more than a database has at most, or no memory was left
abbrev pub IsTooLargeOrMemory : ℕ → Fault → Type 0
IsTooLargeOrMemory size Memory = Unit {0}
IsTooLargeOrMemory size (Refused why) = (why ≡ TooLarge Database size) × (DATABASE_LIMIT < size)
