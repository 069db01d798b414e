use Rattle.repository.proofs.SetLaws.{one_between}
use Rattle.repository.proofs.between_laws.one_set.Goals as goal

pub returns : goal.returns
returns c = one_between c.one_relative.ensures
