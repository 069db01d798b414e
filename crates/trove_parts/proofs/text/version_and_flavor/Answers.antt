use Rattle.std.proofs.Common.{length, Some, None, lit<, sym, ◌∙◌}
use Rattle.std.proofs.lemmas.Str.Pattern.{split_parts, strip_suffix_char}
use Rattle.trove_parts.proofs.Cuts.{no_brackets, with_brackets, bracketed, empty_brackets, above_zero}
use Rattle.cny_version.proofs.cny-base.Faults.{if_none}
use Rattle.cny_version.proofs.cny-base.Allowed.{is_zero}
use Rattle.trove_parts.proofs.text.version_and_flavor.Goals as goal

pub returns-in_err-flavor-in-Some-clause-none : goal.returns-in_err-flavor-in-Some-clause-none
returns-in_err-flavor-in-Some-clause-none c = if_none c.from_residual.result _
    (λ version flavor cut.
    let parts = split_parts 91 c.args.text.now (Some (c.in-Some.version, c.in-Some.rest)) c.in-Some.ensures.cases (lit< tt) in
    strip_suffix_char 93 c.in-Some.rest.now None c.in_err-flavor-in-Some.ensures.cases (lit< tt) flavor
    (bracketed c.args.text.now c.in-Some.version.now c.in-Some.rest.now version flavor parts.0 parts.1 cut).0)

pub returns-then-is_empty-clause-none : goal.returns-then-is_empty-clause-none
returns-then-is_empty-clause-none c version flavor cut =
    let parts = split_parts 91 c.args.text.now (Some (c.in-Some.version, c.in-Some.rest)) c.in-Some.ensures.cases (lit< tt) in
    let ends = strip_suffix_char 93 c.in-Some.rest.now (Some c.in_ok-flavor-in-Some.flavor) c.in_ok-flavor-in-Some.ensures.cases (lit< tt) in
    empty_brackets c.args.text.now c.in-Some.version.now c.in-Some.rest.now c.in_ok-flavor-in-Some.flavor.now version flavor parts.0 parts.1 ends
    (is_zero (length c.in_ok-flavor-in-Some.flavor.now) (sym c.is_empty.ensures ∙ c.if-is_empty.true)) cut

pub returns-in-None-clause-some : goal.returns-in-None-clause-some
returns-in-None-clause-some c = no_brackets c.args.text.now (split_parts 91 c.args.text.now None c.in-None.ensures.cases (lit< tt))

pub returns-else-is_empty-clause-some : goal.returns-else-is_empty-clause-some
returns-else-is_empty-clause-some c =
    let parts = split_parts 91 c.args.text.now (Some (c.in-Some.version, c.in-Some.rest)) c.in-Some.ensures.cases (lit< tt) in
    let ends = strip_suffix_char 93 c.in-Some.rest.now (Some c.in_ok-flavor-in-Some.flavor) c.in_ok-flavor-in-Some.ensures.cases (lit< tt) in
    with_brackets c.args.text.now c.in-Some.version.now c.in-Some.rest.now c.in_ok-flavor-in-Some.flavor.now parts.0 parts.1 ends
    (above_zero (length c.in_ok-flavor-in-Some.flavor.now) (sym c.is_empty.ensures ∙ c.if-is_empty.false))
