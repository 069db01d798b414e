-- Why a pull was stopped, as it is told.
use Rattle.std.specs.Prelude.{◌≡◌, ℕ, Result, Ok, Err}
use Rattle.change_set.specs.cny-base.declared.refusal.Refusal.{Refusal}
use Rattle.change_set.specs.cny-base.declared.refusal.Refusal.TheVariants as refusal
use Rattle.change_set.specs.cny-base.declared.refusal.What.TheVariants.{Content}
use Rattle.change_set.specs.cny-base.declared.refusal.Fault.{Fault}
use Rattle.change_set.specs.cny-base.declared.refusal.Fault.TheVariants as fault
use Rattle.change_set.specs.cny-base.declared.stop.Stop.{Stop}
use Rattle.change_set.specs.cny-base.declared.stop.Stop.TheVariants as stop
use Rattle.change_pull.specs.declared.halt.Halt.{Halt}
use Rattle.change_pull.specs.declared.halt.Halt.TheVariants.{Malformed, TooLarge, Failed, Memory}

abbrev pub stop_of : Halt → Stop
stop_of (Malformed at) = stop.Refused (refusal.Malformed at)
stop_of (TooLarge size) = stop.Refused (refusal.TooLarge Content size)
stop_of Failed = stop.Failed
stop_of Memory = stop.Memory

-- where it is a refusal, this holds of it
abbrev pub IfRefusal : (Refusal → Type 0) → Halt → Type 0
IfRefusal P (Malformed at) = P (refusal.Malformed at)
IfRefusal P (TooLarge size) = P (refusal.TooLarge Content size)
IfRefusal P Failed = Unit {0}
IfRefusal P Memory = Unit {0}

-- it is malformed at this place, where this holds, or memory ran out
abbrev pub HaltsAt : ℕ → Type 0 → Halt → Type 0
HaltsAt place P (Malformed at) = (at ≡ place) × P
HaltsAt place P (TooLarge size) = ⊥
HaltsAt place P Failed = ⊥
HaltsAt place P Memory = Unit {0}

-- why a call of a disk stopped, and how it ended
abbrev pub halt_of : Stop → Halt
halt_of stop.Failed = Failed
halt_of stop.Memory = Memory
halt_of (stop.Refused refusal) = Memory
halt_of (stop.Damaged path) = Memory
halt_of stop.FarFailed = Memory
halt_of (stop.FarDamaged path) = Memory

abbrev pub halted_of : Result Unit Stop → Result Unit Halt
halted_of (Ok u) = Ok u
halted_of (Err e) = Err (halt_of e)

-- it is no refusal
abbrev pub IsNoRefusal : Halt → Type 0
IsNoRefusal (Malformed at) = ⊥
IsNoRefusal (TooLarge size) = ⊥
IsNoRefusal Failed = Unit {0}
IsNoRefusal Memory = Unit {0}

-- the disk didn't fail
abbrev pub IsNoFault : Halt → Type 0
IsNoFault Failed = ⊥
IsNoFault _ = Unit {0}

-- what is told where all was given. (A failure is told as want of memory: no call asks then.)
abbrev pub fault_of : Halt → Fault
fault_of (Malformed at) = fault.Refused (refusal.Malformed at)
fault_of (TooLarge size) = fault.Refused (refusal.TooLarge Content size)
fault_of Failed = fault.Memory
fault_of Memory = fault.Memory
