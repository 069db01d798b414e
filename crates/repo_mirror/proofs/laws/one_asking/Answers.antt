use Rattle.repo_mirror.proofs.Asked.{asks_for_others, one_answer}
use Rattle.repo_mirror.proofs.laws.one_asking.Goals as goal

pub returns-clause-one : goal.returns-clause-one
returns-clause-one c = one_answer c.distinct_ids.ensures.equal

pub returns-clause-stream : goal.returns-clause-stream
returns-clause-stream c = asks_for_others
