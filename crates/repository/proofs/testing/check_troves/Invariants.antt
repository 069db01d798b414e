use Rattle.repository.proofs.testing.check_troves.Given as goal

abbrev pub ghost-check_collisions : goal.ghost-check_collisions
ghost-check_collisions g a = g.listed
