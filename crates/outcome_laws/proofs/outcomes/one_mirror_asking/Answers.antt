use Rattle.outcome_laws.proofs.Mirrors.{asking_once}
use Rattle.outcome_laws.proofs.outcomes.one_mirror_asking.Goals as goal

pub returns : goal.returns
returns c = asking_once c.one_asking.ensures.one
