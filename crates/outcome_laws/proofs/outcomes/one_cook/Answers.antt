use Rattle.outcome_laws.proofs.Commits.{cook_once}
use Rattle.outcome_laws.proofs.outcomes.one_cook.Goals as goal

pub returns : goal.returns
returns c = cook_once
    (record { led = c.one_result.ensures; refusal = c.commit_step.ensures.one_refusal; apart = c.commit_step.ensures.apart })
    (record { made = c.one_manifest.ensures.made; excluded = c.one_manifest.ensures.excluded; fault = c.one_manifest.ensures.fault })
