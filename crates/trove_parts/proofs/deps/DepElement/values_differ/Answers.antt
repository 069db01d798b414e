use Rattle.cny_dep.proofs.DepParts.{one_canonical}
use Rattle.trove_parts.proofs.deps.DepElement.values_differ.Goals as goal

pub returns : goal.returns
returns c one other = one_canonical
