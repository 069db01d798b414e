use Rattle.std.proofs.Common.{subst, arith, All}
use Rattle.std.specs.Option.{option_copied}
use Rattle.std.proofs.lemmas.List.{take_all}
use Rattle.dep_closure.specs.Slots.{held_after, IsNoLoss}
use Rattle.dep_closure.proofs.Bounds.{lost_more}
use Rattle.dep_closure.proofs.staying.bound_by_provides.Goals as goal

pub loop-provide-preserved : goal.loop-provide-preserved
loop-provide-preserved c =
    lost_more (held_after c.args.slots.now c.args.edits.now) c.args.requirers.now (option_copied c.args.bound) (option_copied c.loop-provide.lowest) (option_copied c.bound_by_provide-lowest.result)
    c.args.provides.now c.loop-provide.provide-index c.provide-item.result (omega arith) c.provide-item.is c.loop-provide.invariant c.bound_by_provide-lowest.ensures.lowered c.bound_by_provide-lowest.ensures.no_loss

pub returns-clause-no_loss : goal.returns-clause-no_loss
returns-clause-no_loss c =
    subst (All (IsNoLoss (held_after c.args.slots.now c.args.edits.now) c.args.requirers.now (option_copied c.loop-provide.lowest))) (take_all c.loop-provide.provide-index c.args.provides.now (omega arith))
    c.loop-provide.invariant.no_loss
