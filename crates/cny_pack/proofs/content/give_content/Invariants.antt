use Rattle.std.proofs.Common.{◌≡◌, ◌-◌, ◌≤◌, IsTrue}
use Rattle.cny_pack.specs.Causes.{KeepsCounts}
use Rattle.cny_pack.specs.Gives.{GivesPiece}
use Rattle.cny_pack.proofs.content.give_content.Given as goal

abbrev pub decreases-pieces : goal.decreases-pieces
decreases-pieces g l = l.size - l.at

abbrev pub invariant-pieces : goal.invariant-pieces
invariant-pieces g l = record {
  given : GivesPiece g.D.TreeDisk.disk.tells (g.D.TreeDisk.disk.reads l.fn.disk) l.path 0 l.at (g.S.Sink.sink.written l.fn.out) (g.S.Sink.sink.written l.out);
  within : l.at ≤ l.size;
  same : IsTrue g.D.TreeDisk.disk.tells → g.D.TreeDisk.disk.reads l.disk ≡ g.D.TreeDisk.disk.reads l.fn.disk;
  counts : KeepsCounts (g.D.TreeDisk.disk.faults l.fn.disk) (g.D.TreeDisk.disk.faults l.disk) (g.S.Sink.sink.faults l.fn.out) (g.S.Sink.sink.faults l.out);
}
