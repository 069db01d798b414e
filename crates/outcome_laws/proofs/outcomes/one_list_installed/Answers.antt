use Rattle.outcome_laws.proofs.Listings.{installed_once}
use Rattle.outcome_laws.proofs.outcomes.one_list_installed.Goals as goal

pub returns : goal.returns
returns c = installed_once
