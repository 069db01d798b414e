use Rattle.outcome_laws.proofs.Sets.{sending_once}
use Rattle.outcome_laws.proofs.outcomes.one_sending.Goals as goal

pub returns : goal.returns
returns c = sending_once c.distinct_texts.ensures.labels c.one_expansion.ensures c.one_relative.ensures
