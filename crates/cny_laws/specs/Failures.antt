-- Why a call ends with a status other than 0, where the reason is a fault of what it read.
use Rattle.system_core.specs.cny-base.declared.refusal.Fault.{Fault}
use Rattle.system_core.specs.cny-base.declared.refusal.Fault.TheVariants as fault
use Rattle.cny_laws.specs.declared.failure.Failure.{Failure}
use Rattle.cny_laws.specs.declared.failure.Failure.TheVariants as failure

-- the same refusal, or want of memory
abbrev pub failure_of_fault : Fault → Failure
failure_of_fault (fault.Refused refusal) = failure.Refused refusal
failure_of_fault fault.Memory = failure.Memory
