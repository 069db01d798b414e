use Rattle.std.proofs.Common.{Ok, take}
use Rattle.repo_load.specs.Looks.{Looks}
use Rattle.repo_serve.specs.Wanted.{HasCarried, IsOneOther}
use Rattle.repo_serve.proofs.carrying.carry_all.Given as goal

abbrev pub invariant-loop-content : goal.invariant-loop-content
invariant-loop-content g l = Looks {X = Unit {0}} g.D.TreeDisk.disk (λ tree x. HasCarried (take l.content-index l.wanted) tree l.fn.out l.out) (IsOneOther l.wanted) l.fn.disk l.disk (Ok tt)
