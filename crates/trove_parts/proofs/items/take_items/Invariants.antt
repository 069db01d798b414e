use Rattle.std.proofs.Common.{◌-◌, length, drop}
use Rattle.trove_parts.specs.Items.{IsWithin}
use Rattle.trove_parts.proofs.Taking.{IsReadTo, IsFrontOfAll}
use Rattle.trove_parts.proofs.items.take_items.Given as goal

abbrev pub invariant-items : goal.invariant-items
invariant-items g l =
    IsReadTo (g.T.Element.value l.encoding) g.T.Element.is_valid g.T.Element.compare l.bytes l.at l.tag l.items.items l.end
    × IsFrontOfAll (g.T.Element.value l.encoding) g.T.Element.is_valid l.tag (drop l.at l.bytes) (drop l.end l.bytes) l.items.items
    × IsWithin l.limit (length l.items.items)

abbrev pub decreases-items : goal.decreases-items
decreases-items g l = length l.bytes - l.end
