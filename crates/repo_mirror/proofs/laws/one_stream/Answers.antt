use Rattle.repo_mirror.proofs.OneStream.{one_stream}
use Rattle.repo_mirror.proofs.laws.one_stream.Goals as goal

pub returns : goal.returns
returns c = one_stream c.distinct_ids.ensures.bytes
