use Rattle.repository.proofs.preparing.prepare.Given as goal

abbrev pub ghost-put_contents : goal.ghost-put_contents
ghost-put_contents g a = g.listed
