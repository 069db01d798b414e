use Rattle.std.proofs.Common.{◌≡◌, length}
use Rattle.std.specs.Vec.Iter.{into_iter_items, into_iter_len}
use Rattle.repo_load.proofs.Joined.{AreJoinedTo}
use Rattle.repo_load.proofs.joining.add_troves.Given as goal

abbrev pub invariant-troves : goal.invariant-troves
invariant-troves l = AreJoinedTo l.fn.whole l.fn.catalogue l.fn.troves l.catalogue (into_iter_items l.left) × (into_iter_len l.left ≡ length (into_iter_items l.left))

abbrev pub decreases-troves : goal.decreases-troves
decreases-troves l = into_iter_len l.left
