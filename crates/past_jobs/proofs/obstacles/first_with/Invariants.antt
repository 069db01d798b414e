use Rattle.std.proofs.Common.{◌≡◌, IsTrue, Ok, drop}
use Rattle.local_db.specs.tree-disk.Steps.{Tests}
use Rattle.past_jobs.specs.Seen.{first_path, test_of}
use Rattle.past_jobs.proofs.obstacles.first_with.Given as goal

abbrev pub invariant-loop-change : goal.invariant-loop-change
invariant-loop-change g l = let disk = g.D.TreeDisk.disk in let test = test_of l.obstacle l.found l.changes (disk.reads l.fn.disk) in record {
  so_far : Tests disk (λ (done : Unit {0}). done) (λ tree. Ok tt) l.fn.disk l.disk (Ok tt);
  rest : IsTrue disk.tells → first_path test l.changes ≡ first_path test (drop l.change-index l.changes);
}
