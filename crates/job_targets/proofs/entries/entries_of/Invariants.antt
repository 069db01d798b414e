use Rattle.std.proofs.Common.{◌≡◌, IsTrue, Ok, take}
use Rattle.local_db.specs.tree-disk.Steps.{Tests}
use Rattle.job_targets.specs.Targets.{entries_at, HaveEntries}
use Rattle.job_targets.proofs.entries.entries_of.Given as goal

abbrev pub invariant-loop-one : goal.invariant-loop-one
invariant-loop-one g l = record {
  so_far : Tests g.T.TreeDisk.disk (λ (done : Unit {0}). done) (λ tree. Ok tt) l.fn.root l.root (Ok tt);
  are : IsTrue g.T.TreeDisk.disk.tells → l.entries.items ≡ entries_at (g.T.TreeDisk.disk.reads l.fn.root) (take l.one-index l.planned);
  have : HaveEntries (take l.one-index l.planned) l.entries.items;
}
