use Rattle.std.proofs.Common.{◌≡◌, IsTrue, Ok, take, drop}
use Rattle.tree_scan.specs.OnlyReads.{OnlyReads}
use Rattle.root_edits.specs.Standing.{sights, too_large}
use Rattle.root_edits.specs.Steps.{HaveSeen}
use Rattle.root_edits.proofs.standing.standing_files.Given as goal

abbrev pub invariant-loop-file : goal.invariant-loop-file
invariant-loop-file g l = record {
  finds : OnlyReads {X = Unit {0}} g.D.TreeDisk.disk (λ tree done. Unit {0}) (λ tree refused. ⊥) l.fn.disk l.disk (Ok tt);
  seen : HaveSeen g.D.TreeDisk.disk.tells (g.D.TreeDisk.disk.reads l.fn.disk) (take l.file-index l.recorded) l.files.items l.fn.carried.items l.carried.items;
  rest : IsTrue g.D.TreeDisk.disk.tells → too_large (sights (g.D.TreeDisk.disk.reads l.fn.disk) (drop l.file-index l.recorded)) ≡ too_large (sights (g.D.TreeDisk.disk.reads l.fn.disk) l.recorded);
}
