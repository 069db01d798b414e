use Rattle.std.proofs.Common.{◌≡◌, ◌+◌, ◌≤◌, List, [], ◌∷◌, ◌++◌, length, length-append, drop, Err, sym, ap, ◌∙◌, subst, arith}
use Rattle.std.proofs.lemmas.Result.{err_from_is_err_and}
use Rattle.cny_version.specs.cny-base.declared.text.TextFault.TheVariants.{Bad}
use Rattle.std.proofs.lemmas.Bool.{false≢true}
use Rattle.trove_parts.specs.Items.{items_bytes, IsWithin}
use Rattle.trove_parts.proofs.Taking.{IsReadTo, IsFrontOfAll, none_read, none_to, no_tail, next_of, rising_next, one_more, read_more, refused, taken, within_none, within_fewer}
use Rattle.cny_dep.proofs.Faults.{handed_on}
use Rattle.trove_parts.proofs.items.take_items.Goals as goal

pub items-init : goal.items-init
items-init g c =
    let value = g.T.Element.value c.args.encoding in
    let valid = g.T.Element.is_valid in
    let from = drop c.args.at c.args.bytes.now in
    subst (λ (l : List g.row.T.Denot). IsReadTo value valid g.T.Element.compare c.args.bytes.now c.args.at c.args.tag l c.args.at × IsFrontOfAll value valid c.args.tag from from l
    × IsWithin c.args.limit (length l))
    (sym c.new-items.ensures.items) (none_to value valid c.args.tag g.T.Element.compare c.args.bytes.now c.args.at c.requires, none_read value valid c.args.tag from, within_none c.args.limit)

pub returns-then-not-begins_with-clause-only : goal.returns-then-not-begins_with-clause-only
returns-then-not-begins_with-clause-only g c xs rest list begins =
    let value = g.T.Element.value c.args.encoding in
    let valid = g.T.Element.is_valid in
    let t = c.items.invariant.1 xs rest list.valid begins in
    no_tail value valid c.args.tag xs c.items.items.items t.0 (drop c.items.end c.args.bytes.now) rest t.1 (sym c.begins_with.ensures ∙ c.if-not-begins_with.true)

pub returns-in_err-element-clause-bad : goal.returns-in_err-element-clause-bad
returns-in_err-element-clause-bad g c h xs rest list few begins =
    let value = g.T.Element.value c.args.encoding in
    let valid = g.T.Element.is_valid in
    let t = c.items.invariant.1 xs rest list.valid begins in
    let next = next_of value valid c.args.tag xs c.items.items.items t.0 (drop c.items.end c.args.bytes.now) rest t.1 (sym c.begins_with.ensures ∙ c.if-not-begins_with.false) begins.ended in
    let met : c.in_err-element.field-0.0 ≡ Bad = handed_on c.from_residual.result c.in_err-element.field-0.0 Bad (err_from_is_err_and c.from_residual.result c.from_residual.ensures.1) h in
    c.in_err-element.ensures.bad (ap Err met) next.0 (items_bytes value c.args.tag next.1 ++ rest) next.2.valid next.2.spelled

pub returns-then-not-has_room-clause-bad : goal.returns-then-not-has_room-clause-bad
returns-then-not-has_room-clause-bad g c _ xs rest list few begins =
    let value = g.T.Element.value c.args.encoding in
    let valid = g.T.Element.is_valid in
    let t = c.items.invariant.1 xs rest list.valid begins in
    let next = next_of value valid c.args.tag xs c.items.items.items t.0 (drop c.items.end c.args.bytes.now) rest t.1 (sym c.begins_with.ensures ∙ c.if-not-begins_with.false) begins.ended in
    let more : c.len.result + 1 ≤ length xs = omega (arith, c.len.ensures, ap length next.2.split, length-append c.items.items.items (next.0 ∷ next.1)) in
    false≢true (sym c.if-not-has_room.true ∙ c.has_room.ensures.1 (within_fewer c.args.limit (c.len.result + 1) (length xs) more few))

pub returns-then-not-is_next-clause-bad : goal.returns-then-not-is_next-clause-bad
returns-then-not-is_next-clause-bad g c _ xs rest list few begins =
    let value = g.T.Element.value c.args.encoding in
    let valid = g.T.Element.is_valid in
    let t = c.items.invariant.1 xs rest list.valid begins in
    let next = next_of value valid c.args.tag xs c.items.items.items t.0 (drop c.items.end c.args.bytes.now) rest t.1 (sym c.begins_with.ensures ∙ c.if-not-begins_with.false) begins.ended in
    let same = c.in_ok-element.ensures.only next.0 (items_bytes value c.args.tag next.1 ++ rest) next.2.valid next.2.spelled in
    let rises = rising_next value valid c.args.tag g.T.Element.compare xs c.items.items.items (drop c.items.end c.args.bytes.now) rest next.0 next.1 next.2 list.rising in
    refused value valid c.args.tag g.T.Element.compare c.is_next.result c.as_slice.result.now c.items.items.items c.in_ok-element.element next.0 c.is_next.ensures c.if-not-is_next.true c.as_slice.ensures.value same.0 rises

pub items-preserved : goal.items-preserved
items-preserved g c =
    let value = g.T.Element.value c.args.encoding in
    let valid = g.T.Element.is_valid in
    let begins = sym c.begins_with.ensures ∙ c.if-not-begins_with.false in
    let more = one_more value valid c.args.tag (drop c.args.at c.args.bytes.now) (drop c.items.end c.args.bytes.now) (drop c.in_ok-element.to c.args.bytes.now) c.items.items.items c.in_ok-element.element
    c.items.invariant.1 begins c.in_ok-element.ensures.only in
    let read = read_more value valid c.args.tag g.T.Element.compare c.args.bytes.now c.args.at c.items.end c.in_ok-element.to c.items.items.items c.in_ok-element.element
    c.items.invariant.0 c.in_ok-element.ensures.found c.in_ok-element.ensures.ok
    (taken value valid c.args.tag g.T.Element.compare c.is_next.result c.as_slice.result.now c.items.items.items c.in_ok-element.element c.is_next.ensures c.if-not-is_next.false c.as_slice.ensures.value) in
    let count : length (c.items.items.items ++ c.in_ok-element.element ∷ []) ≡ c.len.result + 1 = omega (arith, c.len.ensures, length-append c.items.items.items (c.in_ok-element.element ∷ [])) in
    let few = subst (IsWithin c.args.limit) (sym count) (c.has_room.ensures.0 c.if-not-has_room.false) in
    subst (λ (l : List g.row.T.Denot). IsReadTo value valid g.T.Element.compare c.args.bytes.now c.args.at c.args.tag l c.in_ok-element.to
    × IsFrontOfAll value valid c.args.tag (drop c.args.at c.args.bytes.now) (drop c.in_ok-element.to c.args.bytes.now) l
    × IsWithin c.args.limit (length l)) (sym c.in_ok-push.ensures.items) (read, more, few)
