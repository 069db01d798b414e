use Rattle.repository.proofs.SetLaws.{contents_of_state, undamaged}
use Rattle.repository.proofs.between_laws.stored_between.Goals as goal

pub returns-clause-undamaged : goal.returns-clause-undamaged
returns-clause-undamaged c x r old fresh path stores committed damage = undamaged x r fresh stores committed old path damage

pub returns-clause-contents : goal.returns-clause-contents
returns-clause-contents c x r old fresh set stores committed is stands = contents_of_state x r fresh stores committed old set is stands
