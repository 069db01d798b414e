use Rattle.local_db.proofs.Apart.{AddedTroves}
use Rattle.local_db.proofs.sharing.share_dirs_alone.Given as goal

abbrev pub invariant-loop-trove : goal.invariant-loop-trove
invariant-loop-trove l = AddedTroves l.troves l.trove-index l.kinds
