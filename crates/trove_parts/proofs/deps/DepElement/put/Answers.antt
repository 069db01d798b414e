use Rattle.std.proofs.Common.{subst, sym, ◌∙◌}
use Rattle.cny_stream.specs.Item.{FitsItem}
use Rattle.trove_parts.proofs.Lengths.{dep_short}
use Rattle.trove_parts.proofs.Counts.{small}
use Rattle.trove_parts.proofs.deps.DepElement.put.Goals as goal

pub put_item-requires : goal.put_item-requires
put_item-requires c = subst FitsItem (sym (c.as_bytes.ensures.value ∙ c.text.ensures.value)) (small _ (dep_short c.args.self.now c.text.ensures.dependency))
