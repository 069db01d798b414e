use Rattle.std.proofs.Common.{length}
use Rattle.std.specs.BTreeSet.{contains_text}
use Rattle.tree_nodes.proofs.Left.{LeftSoFar}
use Rattle.tree_nodes.proofs.crash.Crash.leave_all.Given as goal

abbrev pub invariant-loop-name : goal.invariant-loop-name
invariant-loop-name l =
    LeftSoFar l.self.reads.now l.self.synced.now (contains_text l.self.unsynced.now) l.pick l.place (length l.yielded) l.name-iterator l.self.unsynced.now.keys l.image l.fn.image
