-- Why a call over a disk stops, where the reason is a fault of what it was given.
use Rattle.cny_base.specs.declared.refusal.Fault.{Fault}
use Rattle.cny_base.specs.declared.refusal.Fault.TheVariants as fault
use Rattle.cny_base.specs.declared.stop.Stop.{Stop}
use Rattle.cny_base.specs.declared.stop.Stop.TheVariants as stop

-- the same refusal, or want of memory
abbrev pub stop_of_fault : Fault → Stop
stop_of_fault (fault.Refused refusal) = stop.Refused refusal
stop_of_fault fault.Memory = stop.Memory
