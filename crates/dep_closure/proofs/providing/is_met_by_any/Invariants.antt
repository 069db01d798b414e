use Rattle.std.proofs.Common.{take, All}
use Rattle.dep_closure.proofs.providing.is_met_by_any.Given as goal

abbrev pub invariant-loop-one : goal.invariant-loop-one
invariant-loop-one g l = All (λ (x : g.row.T.Denot). g.T.Meets.is_met x l.require → ⊥) (take l.one-index l.ones)
