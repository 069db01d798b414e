use Rattle.trove_spec.proofs.InOrder.{one_expansion_of}
use Rattle.trove_spec.proofs.expanding.one_expansion.Goals as goal

pub returns : goal.returns
returns c = one_expansion_of
