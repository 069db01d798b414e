use Rattle.std.proofs.Common.{subst, sym, ◌∙◌}
use Rattle.cny_stream.specs.Item.{FitsItem}
use Rattle.trove_parts.proofs.Lengths.{file_short}
use Rattle.trove_parts.proofs.Sizes.{small}
use Rattle.trove_parts.proofs.files.FileAtElement.put.Goals as goal

pub put_item-requires : goal.put_item-requires
put_item-requires c =
    subst FitsItem (sym (c.get.ensures ∙ c.in_ok-value.ensures.value)) (small _ (file_short c.args.encoding c.args.self.now c.in_ok-value.ensures.valid))
