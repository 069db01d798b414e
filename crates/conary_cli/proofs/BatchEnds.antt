-- Bytes that are no batch.
use Rattle.std.proofs.Common.{ℕ, List}
use Rattle.root_commands.specs.cli-call.cny-base.declared.refusal.Fault.{Fault}
use Rattle.root_commands.specs.cli-call.cny-base.declared.refusal.Fault.TheVariants as fault
use Rattle.cny_batch.specs.FirstFault.{IsFaultOf}
use Rattle.root_commands.specs.cli-call.cny-laws.Failures.{failure_of_fault}
use Rattle.conary_cli.specs.RunsSeveral.{MakesNone}
use Rattle.conary_cli.specs.Several.{AreBatchLines}

pub fault_makes_none : (bytes : List ℕ) (f : Fault) → IsFaultOf bytes f → MakesNone AreBatchLines bytes (failure_of_fault f)
fault_makes_none bytes (fault.Refused r) is = is
fault_makes_none bytes fault.Memory is = tt
