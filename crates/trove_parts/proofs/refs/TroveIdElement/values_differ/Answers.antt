use Rattle.std.proofs.Common.{[], append-nil, sym, ◌∙◌}
use Rattle.trove_parts.specs.Id.{id_bytes}
use Rattle.trove_parts.proofs.refs.TroveIdElement.values_differ.Goals as goal

pub returns : goal.returns
returns c one other x y x_is y_is same = (c.distinct_ids.ensures.bytes x y [] [] x_is y_is (append-nil (id_bytes x) ∙ same ∙ sym (append-nil (id_bytes y)))).0
