use Rattle.std.proofs.Common.{Option, sym, subst}
use Rattle.std.proofs.lemmas.Result.{err_from_is_err_and}
use Rattle.cny_batch.specs.declared.words.Command.{Command}
use Rattle.cny_batch.specs.Reading.{ReadsAs}
use Rattle.cny_batch.proofs.Commands.{none_so_far, read_one, read_last, no_next}
use Rattle.cny_batch.proofs.words.command_of.Goals as goal

pub parts-init : goal.parts-init
parts-init c = none_so_far _ c.args.line.now c.new.result.items c.new-words.result c.behind_brackets-behind.result c.new-words.ensures c.new.ensures.items c.behind_brackets-behind.ensures

pub parts-preserved : goal.parts-preserved
parts-preserved c =
    let added = c.in_ok-push_word.ensures.ok in
    rw c.behind_place-rest.ensures.value
    (read_one c.args.line.now c.parts.rest.now c.parts.words c.push_word.new.words c.behind_brackets-behind.result c.in-Some.at c.parts.invariant c.in-Some.ensures.within c.in-Some.ensures.some
    added.valid added.added)

pub returns-in_err-push_word : goal.returns-in_err-push_word
returns-in_err-push_word c =
    let p = err_from_is_err_and c.from_residual.result c.from_residual.ensures.1 in
    rw (p.1, p.2) (no_next c.args.line.now c.parts.rest.now c.parts.words c.behind_brackets-behind.result c.in-Some.at c.in_err-push_word.field-0.0 c.parts.invariant c.in-Some.ensures.some c.in_err-push_word.ensures.err)

pub returns : goal.returns
returns c =
    subst (λ (o : Option Command). ReadsAs o c.end_words.result)
    (sym (read_last c.args.line.now c.parts.rest.now c.parts.words c.behind_brackets-behind.result c.parts.invariant c.in_default.ensures.none)) c.end_words.ensures
