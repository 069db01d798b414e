use Rattle.std.proofs.Common.{◌≤◌, IsTrue, map, All}
use Rattle.std.specs.BTreeMap.{IsOrdered}
use Rattle.std.specs.Cmp.Lexicographic.{slice_cmp}
use Rattle.std.specs.Map.Iter.{deref_pair}
use Rattle.std.specs.Ordering.{nat_cmp}
use Rattle.job_targets.specs.tree-disk.Disk.{HasRead}
use Rattle.job_targets.specs.tree-disk.Tree.{Name}
use Rattle.past_jobs.specs.declared.found.FoundMark.{FoundMark}
use Rattle.rollback_stack.specs.Inverse.{HoldsOld}
use Rattle.rollback_stack.proofs.Finding.{AreWantedTo}
use Rattle.rollback_stack.proofs.back.old_nodes.Given as goal

abbrev pub invariant-loop-path : goal.invariant-loop-path
invariant-loop-path g l = let disk = g.D.TreeDisk.disk in record {
  later : disk.faults l.fn.disk ≤ disk.faults l.disk;
  read : IsTrue disk.tells → HasRead disk l.fn.disk l.disk (Unit {0});
  ordered : IsOrdered (slice_cmp nat_cmp) l.wants;
  wanted : IsTrue disk.tells → AreWantedTo (disk.reads l.fn.disk) l.found (map deref_pair l.yielded) l.wants;
  good : IsTrue disk.tells → All (λ (e : Name × FoundMark). HoldsOld (disk.reads l.fn.disk) e.1.number e.1.mark) (map deref_pair l.yielded);
}
