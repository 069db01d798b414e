use Rattle.std.proofs.Common.{take, Ok}
use Rattle.std.specs.List.{All}
use Rattle.tree_journal.specs.CanBePut.{CanBePut}
use Rattle.tree_journal.specs.Found.{Finds}
use Rattle.tree_journal.proofs.blocked.first_blocked.Given as goal

abbrev pub invariant-loop-put : goal.invariant-loop-put
invariant-loop-put g l =
    Finds {X = Unit {0}} g.D.TreeDisk.disk (λ tree x. All (CanBePut l.puts tree) (take l.put-index l.put-items)) l.fn.disk l.disk (Ok tt)
