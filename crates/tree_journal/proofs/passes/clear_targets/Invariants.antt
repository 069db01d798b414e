use Rattle.std.proofs.Common.{◌≤◌, IsTrue, drop, length, Ok}
use Rattle.journal_log.specs.tree-disk.Steps.{Makes}
use Rattle.journal_log.specs.tree-disk.Unfailed.{UnlessFailed}
use Rattle.journal_log.specs.Targets.{is_target}
use Rattle.tree_journal.specs.Passes.{all_cleared}
use Rattle.tree_journal.specs.Visible.{IsPartCleared}
use Rattle.tree_journal.proofs.passes.clear_targets.Given as goal

abbrev pub invariant-places : goal.invariant-places
invariant-places g l = let disk = g.D.TreeDisk.disk in record {
  within : l.place ≤ length l.puts;
  so_far : Makes {X = Unit {0}} disk (is_target l.puts) (λ tree. all_cleared (drop l.place l.puts) tree) l.fn.disk l.disk (Ok tt);
  seen : IsTrue disk.tells → UnlessFailed disk l.fn.disk l.disk (IsPartCleared l.puts (disk.reads l.fn.disk));
}

abbrev pub decreases-places : goal.decreases-places
decreases-places g l = l.place
