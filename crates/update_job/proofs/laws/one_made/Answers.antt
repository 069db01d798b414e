use Rattle.update_job.proofs.Unique.{first_once, made_apart, made_once}
use Rattle.update_job.proofs.laws.one_made.Goals as goal

pub returns-clause-one : goal.returns-clause-one
returns-clause-one c = λ installed. made_once c.one_result.ensures installed

pub returns-clause-one_refusal : goal.returns-clause-one_refusal
returns-clause-one_refusal c = λ installed. first_once c.one_result.ensures installed

pub returns-clause-apart : goal.returns-clause-apart
returns-clause-apart c = λ installed. made_apart c.one_result.ensures installed
