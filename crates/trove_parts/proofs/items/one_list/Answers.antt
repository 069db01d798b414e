use Rattle.trove_parts.proofs.OneList.{of_one_list}
use Rattle.trove_parts.proofs.items.one_list.Goals as goal

pub returns : goal.returns
returns g c one other =
    let value = g.T.Element.value in
    of_one_list (value one) (value other) g.T.Element.is_valid (c.values_fit.ensures one) (c.values_fit.ensures other) (c.values_differ.ensures one other)
