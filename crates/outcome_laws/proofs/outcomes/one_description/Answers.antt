use Rattle.outcome_laws.proofs.Descriptions.{description_once}
use Rattle.outcome_laws.proofs.outcomes.one_description.Goals as goal

pub returns : goal.returns
returns c = description_once (record { set = c.unique_set.ensures; fault = c.one_fault.ensures.unique })
