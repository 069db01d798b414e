use Rattle.std.proofs.Common.{sym, ◌∙◌, true≢false}
use Rattle.std.specs.Option.{option_copied}
use Rattle.dep_closure.specs.Slots.{held_after}
use Rattle.dep_closure.proofs.Bounds.{lowered_to, none_before_itself}
use Rattle.dep_closure.proofs.staying.bound_by.Goals as goal

pub returns-clause-lowered : goal.returns-clause-lowered
returns-clause-lowered c =
    lowered_to (held_after c.args.slots.now c.args.edits.now) (option_copied c.args.bound) c.args.name.now (c.is_before.ensures.0 c.if-not-is_before.false)
    (λ served. true≢false (sym (c.is_served.ensures.1 served) ∙ c.if-is_served.false))

pub returns-clause-served : goal.returns-clause-served
returns-clause-served c = none_before_itself (held_after c.args.slots.now c.args.edits.now) c.args.name.now
