use Rattle.std.proofs.Common.{◌-◌, take, length, Ok}
use Rattle.journal_log.specs.tree-disk.Clear.{is_within}
use Rattle.journal_log.specs.tree-disk.Steps.{Makes}
use Rattle.journal_log.specs.Own.{staged}
use Rattle.tree_journal.specs.Steps.{with_all_bytes}
use Rattle.tree_journal.proofs.staging.write_all.Given as goal

abbrev pub invariant-places : goal.invariant-places
invariant-places g l = Makes {X = Unit {0}} g.D.TreeDisk.disk (is_within (staged l.base)) (λ tree. with_all_bytes l.base (take l.place l.puts) (take l.place l.numbered) tree) l.fn.disk l.disk (Ok tt)

abbrev pub decreases-places : goal.decreases-places
decreases-places g l = length l.puts - l.place
