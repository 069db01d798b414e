use Rattle.outcome_laws.proofs.Rollbacks.{roll_back_once}
use Rattle.outcome_laws.proofs.outcomes.one_rollback.Goals as goal

pub returns : goal.returns
returns c = roll_back_once
