use Rattle.repo_mirror.proofs.Answering.{told}
use Rattle.repo_mirror.proofs.missing_laws.commits_told.Goals as goal

pub returns : goal.returns
returns c = told
