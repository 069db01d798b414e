use Rattle.repository.proofs.Within.{commit_kept, content_kept, hashes}
use Rattle.repository.proofs.laws.kept_files.Goals as goal

pub returns-clause-commits : goal.returns-clause-commits
returns-clause-commits c k change number has few below = commit_kept k change.contents number few below (hashes change has)

pub returns-clause-contents : goal.returns-clause-contents
returns-clause-contents c k change name has name_is there = content_kept k change.contents name name_is (hashes change has) there
