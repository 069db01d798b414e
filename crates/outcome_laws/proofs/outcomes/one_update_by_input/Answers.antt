use Rattle.outcome_laws.proofs.Updates.{update_input_once}
use Rattle.outcome_laws.proofs.outcomes.one_update_by_input.Goals as goal

pub returns : goal.returns
returns c = update_input_once
    (record { plan = c.one_plan.ensures.plan; refusal = c.one_plan.ensures.refusal; either = c.one_plan.ensures.either })
    (record { set = c.unique_set.ensures; fault = c.one_fault.ensures.unique })
    (record { one = c.one_made.ensures.one; one_refusal = c.one_made.ensures.one_refusal; apart = c.one_made.ensures.apart })
