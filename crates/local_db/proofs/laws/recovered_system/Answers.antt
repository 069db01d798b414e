use Rattle.local_db.proofs.Together.{at_every_moment, at_rest_stores}
use Rattle.local_db.proofs.laws.recovered_system.Goals as goal

pub returns-clause-one_of : goal.returns-clause-one_of
returns-clause-one_of c = at_every_moment

pub returns-clause-at_rest : goal.returns-clause-at_rest
returns-clause-at_rest c = at_rest_stores
