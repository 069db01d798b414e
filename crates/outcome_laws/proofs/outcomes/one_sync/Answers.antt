use Rattle.outcome_laws.proofs.Updates.{sync_once}
use Rattle.outcome_laws.proofs.outcomes.one_sync.Goals as goal

pub returns : goal.returns
returns c = sync_once
    (record { plan = c.one_plan.ensures.plan; refusal = c.one_plan.ensures.refusal; either = c.one_plan.ensures.either })
    c.distinct_texts.ensures.labels c.one_expansion.ensures
