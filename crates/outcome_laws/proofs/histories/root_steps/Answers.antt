use Rattle.outcome_laws.proofs.StepsKept.{each_steps}
use Rattle.outcome_laws.proofs.histories.root_steps.Goals as goal

pub returns : goal.returns
returns c = each_steps
