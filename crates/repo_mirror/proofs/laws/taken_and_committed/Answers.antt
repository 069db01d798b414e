use Rattle.repo_mirror.proofs.Taken.{mirrors}
use Rattle.repo_mirror.proofs.laws.taken_and_committed.Goals as goal

pub returns : goal.returns
returns c = mirrors c.unique_set.ensures
