use Rattle.std.proofs.Common.{◌+◌, ◌-◌, ◌*◌, length, take, IsTrue, Ok}
use Rattle.std.specs.Prelude.{All}
use Rattle.cny_pack.specs.Walk.{OnlyLooks, Went, SawName}
use Rattle.cny_pack.proofs.walk.+walk.Given as goal

abbrev pub decreases-visit : goal.decreases-visit
decreases-visit g l = 4 * (1025 - length l.path) + 3

abbrev pub decreases-walk : goal.decreases-walk
decreases-walk g l = 4 * (1025 - length l.dir.now) + 2

abbrev pub decreases-visit_each : goal.decreases-visit_each
decreases-visit_each g l = 4 * (1025 - length l.dir.now) + 1

abbrev pub decreases-visit_child : goal.decreases-visit_child
decreases-visit_child g l = 4 * (1025 - length l.dir.now)

abbrev pub invariant-visit_each-loop-last : goal.invariant-visit_each-loop-last
invariant-visit_each-loop-last g l = record {
  looks : OnlyLooks g.D.TreeDisk.disk l.fn.disk l.disk (Ok (tt {0}));
  went : IsTrue g.D.TreeDisk.disk.tells → Went (g.D.TreeDisk.disk.reads l.fn.disk) l.fn.seen l.seen;
  each : IsTrue g.D.TreeDisk.disk.tells → All (SawName (g.D.TreeDisk.disk.reads l.fn.disk) l.seen l.dir) (take l.last-index l.names);
}
