use Rattle.std.proofs.Common.{Some, None, sym, lit<, append-nil}
use Rattle.std.proofs.lemmas.Str.Pattern.{split_parts}
use Rattle.trove_spec.proofs.spec.cut_at_equals.Goals as goal

pub returns-in-None : goal.returns-in-None
returns-in-None c = record { front = split_parts 61 c.args.text.now None c.in-None.ensures.cases (lit< tt); whole = sym (append-nil c.args.text.now) }

pub returns-in-Some : goal.returns-in-Some
returns-in-Some c =
    let parts = split_parts 61 c.args.text.now (Some (c.in-Some.name, c.in-Some.place)) c.in-Some.ensures.cases (lit< tt) in
    record { front = parts.1; whole = parts.0 }
