use Rattle.std.proofs.Common.{List, ℕ, sym, ap, ◌∙◌}
use Rattle.dep_closure.specs.Slots.{slot}
use Rattle.dep_closure.proofs.Names.{same, same_means}
use Rattle.dep_closure.proofs.Putting.{held_none, no_slot}
use Rattle.dep_closure.proofs.slots.make_slot.Goals as goal

pub returns-clause-same : goal.returns-clause-same
returns-clause-same c = λ other.
    let key : List ℕ = c.in_ok-copy.field-0 in
    held_none (same key other) (slot c.args.slots.now other) (slot c.insert.new.self other) (c.in_ok-insert.ensures.updates.0 other)
    (λ equal. ap (slot c.args.slots.now) (sym (same_means key other equal) ∙ c.in_ok-copy.ensures) ∙ no_slot (slot c.args.slots.now c.args.name.now) (sym c.contains_key.ensures ∙ c.if-contains_key.false))
