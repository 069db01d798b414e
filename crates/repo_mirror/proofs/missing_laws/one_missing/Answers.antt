use Rattle.repo_mirror.proofs.Answering.{one_answer}
use Rattle.repo_mirror.proofs.missing_laws.one_missing.Goals as goal

pub returns : goal.returns
returns c = one_answer
