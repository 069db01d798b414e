use Rattle.repository.proofs.Stepping.{step_repository}
use Rattle.repository.proofs.Unique as unique
use Rattle.repository.proofs.laws.commit_step.Goals as goal

pub returns-clause-repository : goal.returns-clause-repository
returns-clause-repository c = step_repository

pub returns-clause-one : goal.returns-clause-one
returns-clause-one c = unique.one_step c.one_result.ensures

pub returns-clause-one_refusal : goal.returns-clause-one_refusal
returns-clause-one_refusal c = unique.one_refusal c.one_result.ensures

pub returns-clause-apart : goal.returns-clause-apart
returns-clause-apart c = unique.step_apart c.one_result.ensures
