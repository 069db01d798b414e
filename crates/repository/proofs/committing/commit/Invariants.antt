use Rattle.repository.proofs.committing.commit.Given as goal

abbrev pub ghost-commit_contents : goal.ghost-commit_contents
ghost-commit_contents g a = record { parts = a.parts.now; contents = a.contents.now }
