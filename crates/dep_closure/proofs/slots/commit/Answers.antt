use Rattle.dep_closure.proofs.Putting.{made_more}
use Rattle.dep_closure.proofs.slots.commit.Goals as goal

pub loop-name-preserved : goal.loop-name-preserved
loop-name-preserved c =
    made_more c.args.slots.now c.args.edits c.loop-name.slots c.loop-name.left c.put_edit.new.slots c.pop_first.new.self c.in-Some.name c.in-Some.edit c.loop-name.invariant
    c.in-Some.ensures.value c.in-Some.ensures.updates.0 c.put_edit.ensures.edited c.put_edit.ensures.ordered
