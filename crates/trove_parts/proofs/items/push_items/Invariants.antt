use Rattle.trove_parts.proofs.Writing.{IsWritten}
use Rattle.trove_parts.proofs.items.push_items.Given as goal

abbrev pub invariant-loop-item : goal.invariant-loop-item
invariant-loop-item g l = IsWritten (g.T.Element.value l.encoding) g.T.Element.is_valid l.tag l.fn.out l.items l.item-index l.out
