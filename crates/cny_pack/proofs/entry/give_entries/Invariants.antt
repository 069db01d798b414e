use Rattle.std.proofs.Common.{◌≡◌, IsTrue, take}
use Rattle.cny_pack.specs.Causes.{KeepsCounts}
use Rattle.cny_pack.specs.Entries.{GivesEntries}
use Rattle.cny_pack.proofs.entry.give_entries.Given as goal

abbrev pub invariant-loop-sight : goal.invariant-loop-sight
invariant-loop-sight g l = record {
  given : GivesEntries g.O.Owners.owns l.config g.D.TreeDisk.disk.tells (g.D.TreeDisk.disk.reads l.fn.disk) (take l.sight-index l.sights) (g.S.Sink.sink.written l.fn.out) (g.S.Sink.sink.written l.out);
  same : IsTrue g.D.TreeDisk.disk.tells → g.D.TreeDisk.disk.reads l.disk ≡ g.D.TreeDisk.disk.reads l.fn.disk;
  counts : KeepsCounts (g.D.TreeDisk.disk.faults l.fn.disk) (g.D.TreeDisk.disk.faults l.disk) (g.S.Sink.sink.faults l.fn.out) (g.S.Sink.sink.faults l.out);
}
