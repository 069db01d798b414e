use Rattle.std.proofs.Common.{OnOk, refl, sym, ap, ◌∙◌, ◌++◌, subst}
use Rattle.std.proofs.lemmas.Result.{on_ok_weaker}
use Rattle.cny_stream.specs.Item.{item_bytes, open_head}
use Rattle.change_set.specs.ChangeSet.{IsPart, part_value}
use Rattle.change_set.proofs.Written.{room_for, closed_by}
use Rattle.change_set.proofs.writing.put_part.Goals as goal

pub close_item-requires : goal.close_item-requires
close_item-requires c =
    on_ok_weaker c.put_stream-put.result
    (λ put. room_for c.args.out.now (part_value c.args.part.now) c.put_stream-put.new.out c.tag_of.result c.in_ok-begun.begun.at c.in_ok-begun.ensures.place.0 (put ∙ ap (λ l. l ++ part_value c.args.part.now) c.in_ok-begun.ensures.ok) c.requires)
    c.put_stream-put.ensures.value

pub returns-clause-value : goal.returns-clause-value
returns-clause-value c =
    let before = c.args.out.now in
    let value = part_value c.args.part.now in
    closed_by _ _ c.put_stream-put.result c.close_item.result c.close_item.ensures.same c.put_stream-put.ensures.value
    (λ put. on_ok_weaker c.close_item.result (λ closed. closed ∙ ap (λ t. before ++ item_bytes t value) (c.in_ok-begun.ensures.place.1 ∙ c.tag_of.ensures))
    (c.close_item.ensures.closed before (open_head c.tag_of.result) value (sym c.in_ok-begun.ensures.place.0) refl (put ∙ ap (λ l. l ++ value) c.in_ok-begun.ensures.ok)))

pub returns-clause-part : goal.returns-clause-part
returns-clause-part c = subst (λ r. OnOk r (IsPart c.args.part.now)) (sym c.close_item.ensures.same) c.put_stream-put.ensures.part
