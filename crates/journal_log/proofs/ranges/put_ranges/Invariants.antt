use Rattle.std.proofs.Common.{IsTrue, take, All}
use Rattle.journal_log.specs.declared.put.Put.{Put}
use Rattle.journal_log.specs.Targets.{node_of}
use Rattle.tree_disk.specs.Tree.{may_stand}
use Rattle.journal_log.proofs.ranges.put_ranges.Given as goal

abbrev pub invariant-loop-put : goal.invariant-loop-put
invariant-loop-put l = All (λ (p : Put). IsTrue (may_stand (node_of p.want))) (take l.put-index l.puts)
