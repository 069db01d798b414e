use Rattle.std.proofs.Common.{◌≤◌, ◌+◌, ◌-◌, length, drop}
use Rattle.change_rel.proofs.Passes.{Amending}
use Rattle.change_rel.proofs.amending.amended.Given as goal

abbrev pub invariant-merge : goal.invariant-merge
invariant-merge g l = record {
  at_in : l.at ≤ length l.old;
  next_in : l.next ≤ length l.set;
  so_far : Amending g.T.Element.key_of g.T.Element.order (drop l.away l.gone) l.gone (drop l.next l.set) l.set (drop l.at l.old) l.old l.fresh.items;
}

abbrev pub decreases-merge : goal.decreases-merge
decreases-merge g l = (length l.old - l.at) + (length l.set - l.next)
