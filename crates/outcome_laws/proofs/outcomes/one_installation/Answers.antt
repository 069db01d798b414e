use Rattle.outcome_laws.proofs.Updates.{install_once}
use Rattle.outcome_laws.proofs.outcomes.one_installation.Goals as goal

pub returns : goal.returns
returns c = install_once
    (record { plan = c.one_plan.ensures.plan; refusal = c.one_plan.ensures.refusal; either = c.one_plan.ensures.either })
    (record { made = c.one_manifest.ensures.made; excluded = c.one_manifest.ensures.excluded; fault = c.one_manifest.ensures.fault })
