use Rattle.std.proofs.Common.{sym, ◌∙◌}
use Rattle.std.proofs.lemmas.Result.{err_from_is_err_and}
use Rattle.cny_batch.proofs.Commands.{sized, unsized, no_last}
use Rattle.cny_batch.proofs.words.end_words.Goals as goal

pub returns-in-Some : goal.returns-in-Some
returns-in-Some c = sized c.args.words c.args.part.now c.in-Some.size c.requires (sym c.last_size.ensures ∙ c.in-Some.is)

pub returns-in_ok-push_word-in-None : goal.returns-in_ok-push_word-in-None
returns-in_ok-push_word-in-None c =
    let ok = c.in_ok-push_word-in-None.ensures.ok in
    unsized c.args.words c.args.part.now c.push_word.new.words c.requires (sym c.last_size.ensures ∙ c.in-None.is) ok.valid ok.added

pub returns-in_err-push_word-in-None : goal.returns-in_err-push_word-in-None
returns-in_err-push_word-in-None c =
    let p = err_from_is_err_and c.from_residual.result c.from_residual.ensures.1 in
    rw (p.1, p.2) (no_last c.args.words c.args.part.now c.in_err-push_word-in-None.field-0.0 c.in_err-push_word-in-None.ensures.err)
