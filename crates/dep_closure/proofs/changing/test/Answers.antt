use Rattle.std.proofs.Common.{inr}
use Rattle.std.proofs.lemmas.Result.{IfErr-weaker, on_ok_weaker}
use Rattle.dep_closure.specs.Slots.{IsFirstFault, IsFaulty}
use Rattle.dep_closure.proofs.changing.test.Goals as goal

pub returns-then-is_closed-clause-ok : goal.returns-then-is_closed-clause-ok
returns-then-is_closed-clause-ok c = on_ok_weaker c.test_edits.result (λ harmless. inr (c.if-is_closed.true, harmless)) c.test_edits.ensures.ok

pub returns-then-is_closed-clause-fault : goal.returns-then-is_closed-clause-fault
returns-then-is_closed-clause-fault c =
    IfErr-weaker c.test_edits.result (IsFirstFault c.args.slots.now c.args.edits.now c.args.requirers.now) (IsFaulty c.args.slots.now c.args.edits.now c.args.requirers.now c.args.is_closed)
    (λ fault first. inr (c.if-is_closed.true, first)) c.test_edits.ensures.fault
