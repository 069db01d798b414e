use Rattle.std.proofs.Common.{IsTrue, take, Ok}
use Rattle.std.specs.List.{All}
use Rattle.tree_journal.specs.Found.{Finds}
use Rattle.tree_journal.specs.Staging.{has_content}
use Rattle.tree_journal.proofs.unstaged.first_unstaged.Given as goal

abbrev pub invariant-loop-put : goal.invariant-loop-put
invariant-loop-put g l =
    Finds {X = Unit {0}} g.D.TreeDisk.disk (λ tree x. All (λ p. IsTrue (has_content l.base tree p.want)) (take l.put-index l.put-items)) l.fn.disk l.disk (Ok tt)
