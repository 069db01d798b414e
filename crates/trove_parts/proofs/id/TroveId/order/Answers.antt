use Rattle.std.proofs.Common.{sym, ap, ◌∙◌}
use Rattle.std.specs.Ordering.{is_eq}
use Rattle.trove_parts.specs.Order.{id_ties}
use Rattle.trove_parts.proofs.id.TroveId.order.Goals as goal

pub returns-clause-equal : goal.returns-clause-equal
returns-clause-equal c is =
    c.distinct_ids.ensures.equal c.args.self.now c.args.other.now c.is_valid.ensures c.is_valid-2.ensures
    (id_ties c.args.self.now c.args.other.now ∙ ap is_eq (sym c.cmp.ensures ∙ is))
