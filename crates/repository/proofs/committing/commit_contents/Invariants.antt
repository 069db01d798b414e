use Rattle.repository.proofs.committing.commit_contents.Given as goal

abbrev pub ghost-tested : goal.ghost-tested
ghost-tested g a = g.change

abbrev pub ghost-write : goal.ghost-write
ghost-write g a = g.change.contents
