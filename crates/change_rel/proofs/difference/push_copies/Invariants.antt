use Rattle.std.proofs.Common.{◌≡◌, ◌++◌, take}
use Rattle.change_rel.proofs.difference.push_copies.Given as goal

abbrev pub invariant-loop-item : goal.invariant-loop-item
invariant-loop-item g l = l.copies.items ≡ l.fn.copies.items ++ take l.item-index l.items
