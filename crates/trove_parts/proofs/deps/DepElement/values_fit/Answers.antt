use Rattle.trove_parts.proofs.Lengths.{dep_short}
use Rattle.trove_parts.proofs.Counts.{small}
use Rattle.trove_parts.proofs.deps.DepElement.values_fit.Goals as goal

pub returns : goal.returns
returns c encoding x valid = small _ (dep_short x valid)
