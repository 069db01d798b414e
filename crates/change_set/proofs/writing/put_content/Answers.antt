use Rattle.std.proofs.Common.{refl, sym, ap, ◌∙◌, ◌++◌}
use Rattle.std.proofs.lemmas.Result.{on_ok_weaker}
use Rattle.cny_stream.specs.Item.{item_bytes, open_head}
use Rattle.change_set.specs.ChangeSet.{content_value}
use Rattle.change_set.proofs.Written.{room_for, closed_by}
use Rattle.change_set.proofs.writing.put_content.Goals as goal

pub close_item-requires : goal.close_item-requires
close_item-requires c =
    on_ok_weaker c.put_named-put.result
    (λ put. room_for c.args.out.now (content_value c.args.content.now) c.put_named-put.new.out 0x12 c.in_ok-begun.begun.at c.in_ok-begun.ensures.place.0 (put ∙ ap (λ l. l ++ content_value c.args.content.now) c.in_ok-begun.ensures.ok) c.requires)
    c.put_named-put.ensures

pub returns : goal.returns
returns c =
    let before = c.args.out.now in
    let value = content_value c.args.content.now in
    closed_by _ _ c.put_named-put.result c.close_item.result c.close_item.ensures.same c.put_named-put.ensures
    (λ put. on_ok_weaker c.close_item.result (λ closed. closed ∙ ap (λ t. before ++ item_bytes t value) c.in_ok-begun.ensures.place.1)
    (c.close_item.ensures.closed before (open_head 0x12) value (sym c.in_ok-begun.ensures.place.0) refl (put ∙ ap (λ l. l ++ value) c.in_ok-begun.ensures.ok)))
