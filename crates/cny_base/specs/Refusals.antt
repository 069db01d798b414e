-- What a fault tells of a refusal that may have been found.
use Rattle.cny_base.specs.declared.refusal.Fault.TheVariants.{Memory, Refused}
use Rattle.cny_base.specs.declared.refusal.Fault.{Fault}
use Rattle.cny_base.specs.declared.refusal.Refusal.{Refusal}
use Rattle.std.specs.Prelude.{Option, Some, ◌≡◌}

-- this refusal, where there is one; or memory ran out
abbrev pub IsRefusalOrMemory : Option Refusal → Fault → Type 0
IsRefusalOrMemory found (Refused refused) = found ≡ Some refused
IsRefusalOrMemory found Memory = Unit {0}
