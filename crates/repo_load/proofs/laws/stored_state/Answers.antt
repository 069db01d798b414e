use Rattle.repo_load.proofs.Stored.{no_damaged_commit, no_damaged_content}
use Rattle.repo_load.specs.ContentsLaws.{same_content}
use Rattle.repo_load.proofs.laws.stored_state.Goals as goal

pub returns-clause-commits : goal.returns-clause-commits
returns-clause-commits c = no_damaged_commit c.one_repository.ensures.damaged

pub returns-clause-content : goal.returns-clause-content
returns-clause-content c = same_content

pub returns-clause-contents : goal.returns-clause-contents
returns-clause-contents c = no_damaged_content
