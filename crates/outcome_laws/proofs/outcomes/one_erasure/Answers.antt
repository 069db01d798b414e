use Rattle.outcome_laws.proofs.Updates.{erase_once}
use Rattle.outcome_laws.proofs.outcomes.one_erasure.Goals as goal

pub returns : goal.returns
returns c = erase_once (record { plan = c.one_plan.ensures.plan; refusal = c.one_plan.ensures.refusal; either = c.one_plan.ensures.either })
