use Rattle.outcome_laws.proofs.Listings.{verified_once, verified_fully_once}
use Rattle.outcome_laws.proofs.outcomes.one_verification.Goals as goal

pub returns-clause-installed : goal.returns-clause-installed
returns-clause-installed c = verified_once

pub returns-clause-fully : goal.returns-clause-fully
returns-clause-fully c = verified_fully_once
