use Rattle.repository.proofs.writing.write.Given as goal

abbrev pub ghost-prepare : goal.ghost-prepare
ghost-prepare g a = g.listed
