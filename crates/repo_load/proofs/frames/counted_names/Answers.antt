use Rattle.repo_load.proofs.CountedNames.{counted_commits, counted_not_own, counted_state}
use Rattle.repo_load.proofs.frames.counted_names.Goals as goal

pub returns-clause-commits : goal.returns-clause-commits
returns-clause-commits c = counted_commits

pub returns-clause-stored : goal.returns-clause-stored
returns-clause-stored c = counted_state

pub returns-clause-own : goal.returns-clause-own
returns-clause-own c = counted_not_own
