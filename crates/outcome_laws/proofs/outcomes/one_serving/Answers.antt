use Rattle.outcome_laws.proofs.Mirrors.{serving_once}
use Rattle.outcome_laws.proofs.outcomes.one_serving.Goals as goal

pub returns : goal.returns
returns c = serving_once c.one_answer.ensures
