use Rattle.repo_load.proofs.Holding.{one_list}
use Rattle.repo_load.proofs.Committing.{one_state}
use Rattle.repo_load.proofs.Damages.{no_damage, one_first}
use Rattle.repo_load.proofs.state_laws.one_repository.Goals as goal

pub returns-clause-commits : goal.returns-clause-commits
returns-clause-commits c = one_list c.one_commit.ensures

pub returns-clause-determined : goal.returns-clause-determined
returns-clause-determined c = one_state c.one_commit.ensures

pub returns-clause-damaged : goal.returns-clause-damaged
returns-clause-damaged c = no_damage c.one_commit.ensures

pub returns-clause-first : goal.returns-clause-first
returns-clause-first c = one_first c.one_commit.ensures
