use Rattle.outcome_laws.proofs.Commits.{commit_once}
use Rattle.outcome_laws.proofs.outcomes.one_commit.Goals as goal

pub returns : goal.returns
returns c = commit_once
    (record { led = c.one_result.ensures; refusal = c.commit_step.ensures.one_refusal; apart = c.commit_step.ensures.apart })
    (record { set = c.unique_set.ensures; fault = c.one_fault.ensures.unique })
