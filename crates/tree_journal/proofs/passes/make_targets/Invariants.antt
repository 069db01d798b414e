use Rattle.std.proofs.Common.{IsTrue, map, take, drop, Ok}
use Rattle.journal_log.specs.tree-disk.Steps.{Makes}
use Rattle.journal_log.specs.tree-disk.Unfailed.{UnlessFailed}
use Rattle.journal_log.specs.Targets.{with_targets}
use Rattle.tree_journal.specs.Passes.{is_work_or_target, CanMakeAll}
use Rattle.tree_journal.specs.Staging.{resolve, outcome}
use Rattle.tree_journal.specs.Visible.{IsBetween}
use Rattle.tree_journal.proofs.passes.make_targets.Given as goal

abbrev pub invariant-loop-put : goal.invariant-loop-put
invariant-loop-put g l = let disk = g.D.TreeDisk.disk in record {
  so_far : Makes {X = Unit {0}} disk (is_work_or_target l.base l.puts) (λ tree. with_targets (map (resolve l.base tree) (take l.put-index l.puts)) tree) l.fn.disk l.disk (Ok tt);
  rest : IsTrue disk.tells → CanMakeAll l.base (disk.reads l.fn.disk) (drop l.put-index l.puts) (with_targets (map (resolve l.base (disk.reads l.fn.disk)) (take l.put-index l.puts)) (disk.reads l.fn.disk));
  seen : IsTrue disk.tells → UnlessFailed disk l.fn.disk l.disk (IsBetween l.base (disk.reads l.fn.disk) (outcome l.base l.puts (disk.reads l.fn.disk)));
}
