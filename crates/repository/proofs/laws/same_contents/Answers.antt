use Rattle.repository.proofs.Held.{held_is}
use Rattle.repository.proofs.laws.same_contents.Goals as goal

pub returns : goal.returns
returns c = held_is
