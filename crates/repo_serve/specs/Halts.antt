-- Why a session was stopped, as it is told.
use Rattle.repo_load.specs.cny-base.declared.refusal.Fault.{Fault}
use Rattle.repo_load.specs.cny-base.declared.refusal.Fault.TheVariants as fault
use Rattle.repo_load.specs.cny-base.declared.refusal.Refusal.{Refusal}
use Rattle.repo_load.specs.cny-base.declared.refusal.Refusal.TheVariants as refusals
use Rattle.repo_load.specs.cny-base.declared.stop.Stop.{Stop}
use Rattle.repo_load.specs.cny-base.declared.stop.Stop.TheVariants as stop
use Rattle.repo_serve.specs.declared.halt.Halt.{Halt}
use Rattle.repo_serve.specs.declared.halt.Halt.TheVariants.{Malformed, TooLarge, Failed, Memory}

abbrev pub stop_of : Halt → Stop
stop_of (Malformed at) = stop.Refused (refusals.Malformed at)
stop_of (TooLarge what size) = stop.Refused (refusals.TooLarge what size)
stop_of Failed = stop.Failed
stop_of Memory = stop.Memory

-- what is told at the end: a failure and a damaged content as want of memory, since a fault has no other
abbrev pub fault_of : Halt → Fault
fault_of (Malformed at) = fault.Refused (refusals.Malformed at)
fault_of (TooLarge what size) = fault.Refused (refusals.TooLarge what size)
fault_of Failed = fault.Memory
fault_of Memory = fault.Memory

-- what is kept of a refusal: a stream of requests is refused by these two alone
abbrev pub halt_of_refusal : Refusal → Halt
halt_of_refusal (refusals.Malformed at) = Malformed at
halt_of_refusal (refusals.TooLarge what size) = TooLarge what size
halt_of_refusal other = Memory

-- what is kept of a stop
abbrev pub halt_of : Stop → Halt
halt_of (stop.Refused refusal) = halt_of_refusal refusal
halt_of stop.Failed = Failed
halt_of stop.Memory = Memory
halt_of (stop.Damaged path) = Memory
halt_of stop.FarFailed = Memory
halt_of (stop.FarDamaged path) = Memory

-- what is told of a stop at first
abbrev pub told_of : Stop → Stop
told_of (stop.Damaged path) = stop.Damaged path
told_of other = stop_of (halt_of other)

-- what is told again after a stop: the same, but want of memory after a damaged content
abbrev pub again_of : Stop → Stop
again_of (stop.Damaged path) = stop.Memory
again_of other = other

-- what the end answers after a stop: the same refusal, or want of memory
abbrev pub end_after : Stop → Fault
end_after (stop.Refused refusal) = fault.Refused refusal
end_after stop.Failed = fault.Memory
end_after stop.Memory = fault.Memory
end_after (stop.Damaged path) = fault.Memory
end_after stop.FarFailed = fault.Memory
end_after (stop.FarDamaged path) = fault.Memory
