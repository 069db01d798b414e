use Rattle.std.proofs.Common.{take, All}
use Rattle.dep_closure.specs.Closed.{HasAllMet}
use Rattle.dep_closure.proofs.whole.closed.Given as goal

abbrev pub invariant-loop-trove : goal.invariant-loop-trove
invariant-loop-trove l = All (HasAllMet l.list) (take l.trove-index l.list)
