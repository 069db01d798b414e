use Rattle.std.specs.BTreeSet.{btree_set_len}
use Rattle.sys_model.specs.Held.{held_in, AreServedBut}
use Rattle.sys_model.proofs.doubting.first_unmet.Given as goal

abbrev pub invariant-loop-name : goal.invariant-loop-name
invariant-loop-name l = AreServedBut (held_in l.view) l.doubted

abbrev pub decreases-loop-name : goal.decreases-loop-name
decreases-loop-name l = btree_set_len l.doubted
