use Rattle.std.proofs.Common.{take, All}
use Rattle.dep_closure.specs.Slots.{IsMetBy}
use Rattle.sys_model.specs.Held.{held_in}
use Rattle.sys_model.proofs.view.first_unmet.Given as goal

abbrev pub invariant-loop-require : goal.invariant-loop-require
invariant-loop-require l = All (IsMetBy (held_in l.view)) (take l.require-index l.required)
