use Rattle.std.proofs.Common.{All, take}
use Rattle.trove_parts.proofs.items.are_good.Given as goal

abbrev pub invariant-loop-item : goal.invariant-loop-item
invariant-loop-item g l = All g.T.Element.is_valid (take l.item-index l.items)
