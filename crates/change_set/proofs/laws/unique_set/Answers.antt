use Rattle.change_set.proofs.SameSet.{one_set}
use Rattle.change_set.proofs.laws.unique_set.Goals as goal

pub returns : goal.returns
returns c = one_set c.distinct_troves.ensures.unique c.distinct_rels.ensures.unique
