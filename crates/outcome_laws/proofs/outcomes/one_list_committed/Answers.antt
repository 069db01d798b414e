use Rattle.outcome_laws.proofs.Listings.{committed_once}
use Rattle.outcome_laws.proofs.outcomes.one_list_committed.Goals as goal

pub returns : goal.returns
returns c = committed_once
