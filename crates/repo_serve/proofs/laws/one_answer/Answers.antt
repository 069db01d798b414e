use Rattle.repo_serve.proofs.OneAnswer.{one_outcome}
use Rattle.repo_serve.proofs.laws.one_answer.Goals as goal

pub returns : goal.returns
returns c = λ r stream. one_outcome c.distinct_ids.ensures.bytes c.one_missing.ensures c.sent_length.ensures r stream
