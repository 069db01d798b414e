use Rattle.local_db.proofs.Together.{job_before, job_after}
use Rattle.local_db.proofs.steps.system_after_job.Goals as goal

pub returns-clause-before : goal.returns-clause-before
returns-clause-before c = job_before

pub returns-clause-after : goal.returns-clause-after
returns-clause-after c = job_after
