use Rattle.std.proofs.Common.{sym, ap, ◌∙◌}
use Rattle.std.specs.Ordering.{is_lt}
use Rattle.past_jobs.proofs.Added.{first_alone, first_key, first_own}
use Rattle.past_jobs.proofs.past_marks.first_beside.Goals as goal

pub returns-in_default : goal.returns-in_default
returns-in_default c = first_alone c.args.one.now.name c.args.one.now.mark c.args.others.now c.in_default.ensures.variant.1

pub returns-then-is_lt : goal.returns-then-is_lt
returns-then-is_lt c =
    first_key c.args.one.now.name c.args.one.now.mark c.args.others.now c.in-Some.name.now c.in-Some.mark.now
    (ap is_lt (sym c.cmp.ensures) ∙ sym c.is_lt.ensures ∙ c.if-is_lt.true) c.in-Some.ensures.value c.in-Some.ensures.least

pub returns : goal.returns
returns c =
    first_own c.args.one.now.name c.args.one.now.mark c.args.others.now c.in-Some.name.now
    (ap is_lt (sym c.cmp.ensures) ∙ sym c.is_lt.ensures ∙ c.if-is_lt.false) c.in-Some.ensures.least
