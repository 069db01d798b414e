use Rattle.job_targets.proofs.tree-disk.StepLaws.{makes_stop}
use Rattle.rollback_stack.proofs.Keeping.{dropped_makes}
use Rattle.rollback_stack.proofs.clearing.clear_dropped.Goals as goal

pub returns-in_err-clear_job-clause-makes : goal.returns-in_err-clear_job-clause-makes
returns-in_err-clear_job-clause-makes g c = makes_stop (dropped_makes c.args.dropped c.in-Some.number c.in-Some.is c.in_err-clear_job.ensures) c.from_residual.ensures.1

pub returns-clause-makes : goal.returns-clause-makes
returns-clause-makes g c = dropped_makes c.args.dropped c.in-Some.number c.in-Some.is c.in_ok-clear_job.ensures
