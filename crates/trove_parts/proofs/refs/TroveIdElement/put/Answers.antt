use Rattle.std.proofs.Common.{subst, sym, ◌∙◌}
use Rattle.cny_stream.specs.Item.{FitsItem}
use Rattle.cny_version.proofs.cny-base.Counts.{small}
use Rattle.trove_parts.proofs.refs.TroveIdElement.put.Goals as goal

pub put_item-requires : goal.put_item-requires
put_item-requires c = subst FitsItem (sym (c.get.ensures ∙ c.in_ok-value.ensures.value)) (small _ (c.short_ids.ensures c.args.self.now c.in_ok-value.ensures.valid))
