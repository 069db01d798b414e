use Rattle.std.proofs.Common.{◌≡◌, IsTrue, Ok, take, drop}
use Rattle.tree_scan.specs.OnlyReads.{OnlyReads}
use Rattle.root_edits.specs.Local.{all_sights}
use Rattle.root_edits.specs.Standing.{too_large}
use Rattle.root_edits.specs.Steps.{HaveAddedParts}
use Rattle.root_edits.proofs.changing.add_troves.Given as goal

abbrev pub invariant-loop-place : goal.invariant-loop-place
invariant-loop-place g l = record {
  finds : OnlyReads {X = Unit {0}} g.T.TreeDisk.disk (λ tree done. Unit {0}) (λ tree refused. ⊥) l.fn.root l.root (Ok tt);
  added : HaveAddedParts g.T.TreeDisk.disk.tells (g.T.TreeDisk.disk.reads l.fn.root) l.troves (take l.place l.trove-items) l.parts.items l.carried.items;
  rest : IsTrue g.T.TreeDisk.disk.tells → too_large (all_sights (g.T.TreeDisk.disk.reads l.fn.root) (drop l.place l.trove-items)) ≡ too_large (all_sights (g.T.TreeDisk.disk.reads l.fn.root) l.trove-items);
}
