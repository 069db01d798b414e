use Rattle.std.proofs.Common.{◌∷◌, ◌++◌, Some, None, sym, ap, ◌∙◌, lit<, append-nil}
use Rattle.std.proofs.lemmas.Str.Pattern.{split_parts, strip_suffix_char}
use Rattle.trove_spec.proofs.Cutting.{unclosed}
use Rattle.cny_version.proofs.cny-base.Faults.{if_none}
use Rattle.trove_spec.proofs.spec.cut_at_bracket.Goals as goal

pub returns-in_err-flavor-in-Some-clause-none : goal.returns-in_err-flavor-in-Some-clause-none
returns-in_err-flavor-in-Some-clause-none c = if_none c.from_residual.result _
    (λ front flavor cut.
    let parts = split_parts 91 c.args.text.now (Some (c.in-Some.front, c.in-Some.rest)) c.in-Some.ensures.cases (lit< tt) in
    unclosed c.args.text.now c.in-Some.front.now c.in-Some.rest.now front flavor parts.0 parts.1
    (λ inner ends. strip_suffix_char 93 c.in-Some.rest.now None c.in_err-flavor-in-Some.ensures.cases (lit< tt) inner ends) cut.front cut.whole)

pub returns-in-None-clause-some : goal.returns-in-None-clause-some
returns-in-None-clause-some c = record { front = split_parts 91 c.args.text.now None c.in-None.ensures.cases (lit< tt); whole = sym (append-nil c.args.text.now) }

pub returns-in_ok-flavor-in-Some-clause-some : goal.returns-in_ok-flavor-in-Some-clause-some
returns-in_ok-flavor-in-Some-clause-some c =
    let parts = split_parts 91 c.args.text.now (Some (c.in-Some.front, c.in-Some.rest)) c.in-Some.ensures.cases (lit< tt) in
    let ends = strip_suffix_char 93 c.in-Some.rest.now (Some c.in_ok-flavor-in-Some.flavor) c.in_ok-flavor-in-Some.ensures.cases (lit< tt) in
    record { front = parts.1; whole = parts.0 ∙ ap (λ l. c.in-Some.front.now ++ 91 ∷ l) ends }
