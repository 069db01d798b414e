use Rattle.outcome_laws.proofs.LocalSets.{locally_once}
use Rattle.outcome_laws.proofs.outcomes.one_local_change.Goals as goal

pub returns : goal.returns
returns c = locally_once c.one_relative.ensures
