use Rattle.std.proofs.Common.{sym, ◌∙◌, drop}
use Rattle.std.specs.Prelude.{slice_range}
use Rattle.cny_stream.proofs.ItemLaws.{same_item}
use Rattle.trove_parts.proofs.items.take_item.Goals as goal

pub returns-clause-only : goal.returns-clause-only
returns-clause-only g c x rest valid same =
    let item = c.in-Ok.ensures.found in
    let bytes = c.args.bytes.now in
    let items = same_item c.in-Ok.item.tag c.args.tag (slice_range bytes c.in-Ok.item.from c.in-Ok.item.to) (g.T.Element.value c.args.encoding x) (drop c.in-Ok.item.to bytes) rest item.fits (c.values_fit.ensures c.args.encoding x valid) (sym item.spelled ∙ same) in
    (c.in_ok-element.ensures.only x valid items.values, items.rests)
