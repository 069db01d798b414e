use Rattle.repo_load.proofs.Committing.{commit_after, commit_before}
use Rattle.repo_load.proofs.state_laws.stored_after_commit.Goals as goal

pub returns-clause-before : goal.returns-clause-before
returns-clause-before c = commit_before

pub returns-clause-after : goal.returns-clause-after
returns-clause-after c = commit_after
