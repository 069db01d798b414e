use Rattle.repo_load.proofs.CountedNames.{prepared_commits, prepared_flag, prepared_state}
use Rattle.repo_load.proofs.frames.prepared_names.Goals as goal

pub returns-clause-commits : goal.returns-clause-commits
returns-clause-commits c = prepared_commits

pub returns-clause-state : goal.returns-clause-state
returns-clause-state c = prepared_state

pub returns-clause-flag : goal.returns-clause-flag
returns-clause-flag c = prepared_flag
