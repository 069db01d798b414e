use Rattle.std.proofs.Common.{lit<, None, Some}
use Rattle.std.proofs.lemmas.Str.Pattern.{split_parts}
use Rattle.cny_pack.proofs.pattern.Pattern.with_star.Goals as goal

pub returns-in_ok-new-in-None-2-clause-single : goal.returns-in_ok-new-in-None-2-clause-single
returns-in_ok-new-in-None-2-clause-single c = split_parts 42 c.args.after.now None c.in-None.ensures.cases (lit< tt)

pub returns-in-Some-clause-bad : goal.returns-in-Some-clause-bad
returns-in-Some-clause-bad c = λ is.
    let parts = split_parts 42 c.args.after.now (Some (c.in-Some._between, c.in-Some._rest)) c.in-Some.ensures.cases (lit< tt) in
    (c.in-Some._between.now, c.in-Some._rest.now, parts.0)
