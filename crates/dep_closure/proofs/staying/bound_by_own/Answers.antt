use Rattle.std.proofs.Common.{inl, sym, ◌∙◌}
use Rattle.dep_closure.specs.Slots.{held_after}
use Rattle.dep_closure.proofs.Meeting.{own_kept}
use Rattle.dep_closure.proofs.staying.bound_by_own.Goals as goal

pub returns-then-is_some-clause-no_loss : goal.returns-then-is_some-clause-no_loss
returns-then-is_some-clause-no_loss c =
    inl (own_kept (held_after c.args.slots.now c.args.edits.now) c.args.name.now (c.requires.named c.args.name.now) c.held_after.result c.held_after.ensures (sym c.is_some.ensures ∙ c.if-is_some.true))
