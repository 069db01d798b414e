use Rattle.std.proofs.Common.{◌≡◌, length}
use Rattle.cny_dep.specs.FlavorOrder.{rise}
use Rattle.cny_dep.proofs.flavor_order.rises.Given as goal

abbrev pub invariant-loop-rest : goal.invariant-loop-rest
invariant-loop-rest g l = rise g.T.Worded.word_of l.items ≡ rise g.T.Worded.word_of l.rest

abbrev pub decreases-loop-rest : goal.decreases-loop-rest
decreases-loop-rest g l = length l.rest
