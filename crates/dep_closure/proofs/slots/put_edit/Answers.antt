use Rattle.std.proofs.Common.{Bool, cond, Some, ap, ◌∙◌, rules}
use Rattle.dep_closure.specs.Slots.{slot}
use Rattle.dep_closure.proofs.Putting.{same_straight}
use Rattle.dep_closure.proofs.slots.put_edit.Goals as goal

pub returns-in-Some-clause-edited : goal.returns-in-Some-clause-edited
returns-in-Some-clause-edited c = λ other.
    ((c.get_mut.follows.holds c.args.edit).3 (search rules)).0 other
    ∙ ap (λ (b : Bool). cond b (Some c.args.edit) (slot c.args.slots.now other)) (same_straight c.args.name.now other)
