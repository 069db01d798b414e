use Rattle.repository.proofs.Resting as resting
use Rattle.repository.proofs.laws.at_rest.Goals as goal

pub returns-clause-reads : goal.returns-clause-reads
returns-clause-reads g c = resting.reads_alone c.one_repository.ensures.determined

pub returns-clause-crash : goal.returns-clause-crash
returns-clause-crash g c = resting.image_alone c.one_repository.ensures.determined
