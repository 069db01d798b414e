use Rattle.repo_shadow.proofs.Lookups.{all_within}
use Rattle.repo_shadow.proofs.within.refs_found.Goals as goal

pub returns : goal.returns
returns c = all_within c.distinct_ids.ensures.equal
