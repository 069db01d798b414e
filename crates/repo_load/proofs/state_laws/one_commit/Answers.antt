use Rattle.repo_load.proofs.Streams.{one_stream}
use Rattle.repo_load.proofs.state_laws.one_commit.Goals as goal

pub returns : goal.returns
returns c = one_stream c.distinct_troves.ensures.unique
