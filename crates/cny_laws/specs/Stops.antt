-- The stops of each disk, as failures of a call.
use Rattle.std.specs.Prelude.{Result, Ok, Err}
use Rattle.system_core.specs.cny-base.declared.stop.Stop.{Stop}
use Rattle.system_core.specs.cny-base.declared.stop.Stop.TheVariants as stop
use Rattle.cny_laws.specs.declared.failure.Failure.{Failure}
use Rattle.cny_laws.specs.declared.failure.Failure.TheVariants as failure

-- a stop of the root's disk; what lies far from it is the repository
abbrev pub root_failure : Stop → Failure
root_failure (stop.Refused r) = failure.Refused r
root_failure stop.Memory = failure.Memory
root_failure stop.Failed = failure.RootFault
root_failure (stop.Damaged path) = failure.Damaged path
root_failure stop.FarFailed = failure.RepositoryFault
root_failure (stop.FarDamaged path) = failure.Damaged path

-- a stop of the repository's disk: its fault is one of the repository
abbrev pub repository_failure : Stop → Failure
repository_failure stop.Failed = failure.RepositoryFault
repository_failure e = root_failure e

abbrev pub root_result : {X : Type 0} → Result X Stop → Result X Failure
root_result (Ok x) = Ok x
root_result (Err e) = Err (root_failure e)

abbrev pub repository_result : {X : Type 0} → Result X Stop → Result X Failure
repository_result (Ok x) = Ok x
repository_result (Err e) = Err (repository_failure e)
