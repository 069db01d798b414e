use Rattle.repository.proofs.SetLaws.{all_sent, whole_parts}
use Rattle.repository.proofs.between_laws.absolute_set.Goals as goal

pub returns-clause-parts : goal.returns-clause-parts
returns-clause-parts c = whole_parts

pub returns-clause-contents : goal.returns-clause-contents
returns-clause-contents c = all_sent
