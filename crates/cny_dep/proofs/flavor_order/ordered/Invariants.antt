use Rattle.std.proofs.Common.{◌≡◌, vec_len}
use Rattle.cny_dep.specs.FlavorOrder.{put_all, in_order}
use Rattle.cny_dep.proofs.flavor_order.ordered.Given as goal

abbrev pub invariant-loop-item : goal.invariant-loop-item
invariant-loop-item g l = put_all g.T.Worded.word_of l.items.items l.ordered.items ≡ in_order g.T.Worded.word_of l.initial.items.items

abbrev pub decreases-loop-item : goal.decreases-loop-item
decreases-loop-item g l = vec_len l.items
