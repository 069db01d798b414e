use Rattle.std.proofs.Common.{List, sym, subst}
use Rattle.std.specs.Prelude.{slice_range}
use Rattle.std.proofs.lemmas.Result.{err_from_is_err_and}
use Rattle.change_set.specs.declared.change.Carried.{Carried}
use Rattle.change_set.specs.Contents.{IsNoContent, IsNoNext, IsNoEnd}
use Rattle.change_set.specs.Reading.{last_name}
use Rattle.change_set.proofs.ContentsRead.{HasRead, IsReading, none_read, read_more, content_stops, none_stops, end_stops, all_read, handed_on}
use Rattle.change_set.proofs.contents.take_contents.Goals as goal

pub contents-init : goal.contents-init
contents-init c =
    subst (λ (l : List Carried). IsReading c.args.bytes.now c.args.parts.now l c.args.at c.args.first) (sym c.new-contents.ensures.items)
    (record { so_far = none_read c.args.bytes.now c.args.parts.now c.args.at c.requires.parts; next = c.requires.first })

pub returns-in_err-content-clause-refused : goal.returns-in_err-content-clause-refused
returns-in_err-content-clause-refused c =
    let bytes = c.args.bytes.now in
    let item = c.contents.item in
    let given = c.as_slice.result.now in
    handed_on bytes (IsNoContent c.in_ok-index.index (last_name given) (slice_range bytes item.from item.to) c.contents.at)
    c.from_residual-in_err-content.result c.in_err-content.field-0.0
    (err_from_is_err_and c.from_residual-in_err-content.result c.from_residual-in_err-content.ensures.1) c.in_err-content.ensures.refused
    (λ refusal stop. content_stops c.distinct_troves.ensures.unique c.distinct_rels.ensures.unique bytes c.args.parts.now c.in_ok-index.index given c.contents.contents.items c.args.at c.contents.at item refusal c.as_slice.ensures.value
    c.requires.parts c.contents.invariant c.contents-test.true c.in_ok-index.ensures stop)

pub returns-in_err-item-clause-refused : goal.returns-in_err-item-clause-refused
returns-in_err-item-clause-refused c =
    let bytes = c.args.bytes.now in
    let item = c.contents.item in
    let more = read_more bytes c.args.parts.now c.as_slice.result.now c.contents.contents.items c.contents.at item c.in_ok-content.content c.as_slice.ensures.value
    c.contents.invariant c.contents-test.true (c.in_ok-content.ensures.found c.args.parts.now c.in_ok-index.ensures) in
    handed_on bytes (IsNoNext bytes item.to) c.from_residual-in_err-item.result c.in_err-item.field-0.0
    (err_from_is_err_and c.from_residual-in_err-item.result c.from_residual-in_err-item.ensures.1) c.in_err-item.ensures.refused
    (λ refusal stop. none_stops bytes c.args.parts.now c.contents.contents.items c.in_ok-content.content c.args.at item.to refusal c.requires.parts more stop)

pub contents-preserved : goal.contents-preserved
contents-preserved c =
    let bytes = c.args.bytes.now in
    let item = c.contents.item in
    let more = read_more bytes c.args.parts.now c.as_slice.result.now c.contents.contents.items c.contents.at item c.in_ok-content.content c.as_slice.ensures.value
    c.contents.invariant c.contents-test.true (c.in_ok-content.ensures.found c.args.parts.now c.in_ok-index.ensures) in
    record { so_far = subst (λ (l : List Carried). HasRead bytes c.args.parts.now l item.to) (sym c.in_ok-push.ensures.items) more; next = c.in_ok-item.ensures.found }

pub returns-in_err-end_at-clause-refused : goal.returns-in_err-end_at-clause-refused
returns-in_err-end_at-clause-refused c =
    let bytes = c.args.bytes.now in
    handed_on bytes (IsNoEnd bytes c.contents.at c.contents.item) c.from_residual-in_err-end_at.result c.in_err-end_at.field-0.0
    (err_from_is_err_and c.from_residual-in_err-end_at.result c.from_residual-in_err-end_at.ensures.1) c.in_err-end_at.ensures.refused
    (λ refusal stop. end_stops bytes c.args.parts.now c.contents.contents.items c.args.at c.contents.at c.contents.item refusal c.requires.parts c.contents.invariant c.contents-test.false stop)

pub returns-clause-value : goal.returns-clause-value
returns-clause-value c =
    all_read c.args.bytes.now c.args.parts.now c.contents.contents.items c.args.at c.contents.at c.contents.item c.requires.parts c.contents.invariant c.contents-test.false c.in_ok-end_at.ensures.found
