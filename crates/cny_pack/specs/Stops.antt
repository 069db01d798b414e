-- What stops a step makes of what is written above it.
use Rattle.tree_disk.specs.cny-base.declared.fault.FlowFault.{FlowFault}
use Rattle.tree_disk.specs.cny-base.declared.fault.FlowFault.TheVariants as flow
use Rattle.tree_disk.specs.cny-base.declared.stop.Stop.{Stop}
use Rattle.tree_disk.specs.cny-base.declared.stop.Stop.TheVariants as stop
use Rattle.cny_pack.specs.declared.stop.Halt.{Halt}
use Rattle.cny_pack.specs.declared.stop.Halt.TheVariants as halt
use Rattle.cny_pack.specs.declared.stop.PackStop.{PackStop}
use Rattle.cny_pack.specs.declared.stop.PackStop.TheVariants as pack

abbrev pub halt_of_flow : FlowFault → Halt
halt_of_flow flow.Failed = halt.SinkFailed
halt_of_flow flow.Memory = halt.Memory

-- a step of a disk stops by a fault or for want of memory alone
abbrev pub by_step : {E : Type 0} → E → E → Stop → E
by_step failed memory stop.Failed = failed
by_step failed memory _ = memory

abbrev pub halt_of_step : Stop → Halt
halt_of_step stop = by_step halt.DiskFailed halt.Memory stop

abbrev pub stop_of_step : Stop → PackStop
stop_of_step stop = by_step pack.DiskFailed pack.Memory stop
