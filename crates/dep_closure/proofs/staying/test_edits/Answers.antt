use Rattle.std.proofs.lemmas.Result.{IfErr-weaker}
use Rattle.dep_closure.specs.Slots.{held_after, IsUnmetAt, IsFirstFault}
use Rattle.dep_closure.proofs.staying.test_edits.Goals as goal

pub returns-in-Some-clause-fault : goal.returns-in-Some-clause-fault
returns-in-Some-clause-fault c =
    IfErr-weaker c.test_trove.result (IsUnmetAt (held_after c.args.slots.now c.args.edits.now) c.in-Some.name.now) (IsFirstFault c.args.slots.now c.args.edits.now c.args.requirers.now)
    (λ fault unmet. (c.in-Some.name.now, unmet, c.in-Some.ensures.harmless))
    c.test_trove.ensures.fault
