use Rattle.std.proofs.Common.{ap, sym, ◌∙◌, Err}
use Rattle.std.proofs.lemmas.Result.{err_from_is_err_and}
use Rattle.cny_batch.proofs.Commands.{never_bad}
use Rattle.cny_batch.proofs.words.push_word.Goals as goal

pub returns-in_err-word-clause-err : goal.returns-in_err-word-clause-err
returns-in_err-word-clause-err c =
    let p = err_from_is_err_and c.from_residual.result c.from_residual.ensures.1 in
    rw (p.1, p.2) (never_bad c.args.part.now c.in_err-word.field-0.0 (sym c.is_word.ensures ∙ c.if-not-is_word.false) (λ same. c.in_err-word.ensures.bad.0 (ap (λ e. Err e) same)))
