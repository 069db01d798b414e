use Rattle.std.proofs.Common.{◌≤◌, ◌+◌, ◌-◌, length, drop}
use Rattle.change_rel.proofs.Passes.{Differs}
use Rattle.change_rel.proofs.difference.difference.Given as goal

abbrev pub invariant-merge : goal.invariant-merge
invariant-merge g l = record {
  at_in : l.at ≤ length l.old;
  next_in : l.next ≤ length l.fresh;
  so_far : Differs g.T.Element.key_of g.T.Element.order l.gone.items l.set.items (drop l.at l.old) (drop l.next l.fresh) l.old l.fresh;
}

abbrev pub decreases-merge : goal.decreases-merge
decreases-merge g l = (length l.old - l.at) + (length l.fresh - l.next)
