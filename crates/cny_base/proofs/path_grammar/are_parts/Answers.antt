use Rattle.std.proofs.Common.{◌≡◌, true, false, Some, None, sym, ap, ◌∙◌}
use Rattle.std.specs.List.{position}
use Rattle.cny_base.specs.Path.{is_slash, is_part, are_parts}
use Rattle.cny_base.proofs.Parts.{no_cut, cut_range, before_cut, after_cut}
use Rattle.cny_base.proofs.path_grammar.are_parts.Goals as goal

pub returns-in_default : goal.returns-in_default
returns-in_default c =
    let none : position is_slash c.parts.rest.now ≡ None = ap (position is_slash) (sym c.as_bytes.ensures.value) ∙ sym c.slash_place.ensures.place ∙ c.in_default.is in
    c.is_part.ensures ∙ sym (no_cut c.parts.rest.now none) ∙ sym c.parts.invariant.1

pub range-requires-clause-end_boundary : goal.range-requires-clause-end_boundary
range-requires-clause-end_boundary c =
    let found : position is_slash c.parts.rest.now ≡ Some c.in-Some.at = ap (position is_slash) (sym c.as_bytes.ensures.value) ∙ sym c.slash_place.ensures.place ∙ c.in-Some.is in
    before_cut c.parts.rest.now c.in-Some.at found

pub returns-then-not-is_part : goal.returns-then-not-is_part
returns-then-not-is_part c =
    let found : position is_slash c.parts.rest.now ≡ Some c.in-Some.at = ap (position is_slash) (sym c.as_bytes.ensures.value) ∙ sym c.slash_place.ensures.place ∙ c.in-Some.is in
    let front = ap is_part (sym c.range.ensures.value) ∙ sym c.is_part-in-parts.ensures ∙ c.if-not-is_part.true in
    sym (c.parts.invariant.1 ∙ cut_range c.parts.rest.now c.in-Some.at false found front)

pub range_from-rest-requires : goal.range_from-rest-requires
range_from-rest-requires c _ =
    let found : position is_slash c.parts.rest.now ≡ Some c.in-Some.at = ap (position is_slash) (sym c.as_bytes.ensures.value) ∙ sym c.slash_place.ensures.place ∙ c.in-Some.is in
    after_cut c.parts.rest.now c.in-Some.at c.parts.invariant.0 found

pub parts-preserved : goal.parts-preserved
parts-preserved c =
    let found : position is_slash c.parts.rest.now ≡ Some c.in-Some.at = ap (position is_slash) (sym c.as_bytes.ensures.value) ∙ sym c.slash_place.ensures.place ∙ c.in-Some.is in
    let front = ap is_part (sym c.range.ensures.value) ∙ sym c.is_part-in-parts.ensures ∙ c.if-not-is_part.false in
    (c.range_from-rest.utf8, c.parts.invariant.1 ∙ cut_range c.parts.rest.now c.in-Some.at true found front ∙ ap are_parts (sym c.range_from-rest.ensures.value))
