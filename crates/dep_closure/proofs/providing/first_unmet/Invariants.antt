use Rattle.std.proofs.Common.{take, All}
use Rattle.dep_closure.proofs.providing.first_unmet.Given as goal

abbrev pub invariant-loop-require : goal.invariant-loop-require
invariant-loop-require g l = All (g.T.Meets.is_met l.by) (take l.require-index l.required)
