use Rattle.std.proofs.Common.{◌≡◌, ◌++◌, map, take}
use Rattle.change_rel.proofs.difference.push_keys.Given as goal

abbrev pub invariant-loop-item : goal.invariant-loop-item
invariant-loop-item g l = l.keys.items ≡ l.fn.keys.items ++ map g.T.Element.key_of (take l.item-index l.items)
