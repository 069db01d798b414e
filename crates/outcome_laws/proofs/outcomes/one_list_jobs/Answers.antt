use Rattle.outcome_laws.proofs.Jobs.{jobs_once}
use Rattle.outcome_laws.proofs.outcomes.one_list_jobs.Goals as goal

pub returns : goal.returns
returns c = jobs_once
