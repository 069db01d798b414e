use Rattle.std.proofs.Common.{◌++◌, refl, ◌∙◌}
use Rattle.cny_stream.specs.Item.{item_bytes}
use Rattle.trove_stream.proofs.Heads.{three_and, behind_item}
use Rattle.trove_stream.proofs.head.head_items.Goals as goal

pub returns-in_default-clause-none : goal.returns-in_default-clause-none
returns-in_default-clause-none c a b d rest fa fb fd same = c.in_default.ensures.only 1 a (item_bytes 2 b ++ (item_bytes 3 d ++ rest)) refl fa (same ∙ three_and a b d rest)

pub returns-in_default-next_item-clause-none : goal.returns-in_default-next_item-clause-none
returns-in_default-next_item-clause-none c a b d rest fa fb fd same =
    let first = c.in-Ok.ensures.only 1 a (item_bytes 2 b ++ (item_bytes 3 d ++ rest)) refl fa (same ∙ three_and a b d rest) in
    let behind = behind_item c.args.bytes.now 0 c.in-Ok.name.to 1 a (item_bytes 2 b ++ (item_bytes 3 d ++ rest)) (same ∙ three_and a b d rest) first.2 in
    c.in_default-next_item.ensures.only 2 b (item_bytes 3 d ++ rest) refl fb behind

pub returns-in_default-next_item-2-clause-none : goal.returns-in_default-next_item-2-clause-none
returns-in_default-next_item-2-clause-none c a b d rest fa fb fd same =
    let first = c.in-Ok.ensures.only 1 a (item_bytes 2 b ++ (item_bytes 3 d ++ rest)) refl fa (same ∙ three_and a b d rest) in
    let behind = behind_item c.args.bytes.now 0 c.in-Ok.name.to 1 a (item_bytes 2 b ++ (item_bytes 3 d ++ rest)) (same ∙ three_and a b d rest) first.2 in
    let second = c.in-Ok-next_item.ensures.only 2 b (item_bytes 3 d ++ rest) refl fb behind in
    let last = behind_item c.args.bytes.now c.in-Ok.name.to c.in-Ok-next_item.version.to 2 b (item_bytes 3 d ++ rest) behind second.2 in
    c.in_default-next_item-2.ensures.only 3 d rest refl fd last
