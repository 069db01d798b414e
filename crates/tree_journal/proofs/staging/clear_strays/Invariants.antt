use Rattle.std.proofs.Common.{take, Ok}
use Rattle.journal_log.specs.tree-disk.Clear.{is_within}
use Rattle.journal_log.specs.tree-disk.Steps.{Makes}
use Rattle.tree_journal.specs.Steps.{without_strays}
use Rattle.tree_journal.proofs.staging.clear_strays.Given as goal

abbrev pub invariant-loop-last : goal.invariant-loop-last
invariant-loop-last g l = Makes {X = Unit {0}} g.D.TreeDisk.disk (is_within l.dir) (λ tree. without_strays l.puts l.dir (take l.last-index l.names) tree) l.fn.disk l.disk (Ok tt)
