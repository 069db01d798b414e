use Rattle.std.proofs.Common.{[], ◌∷◌}
use Rattle.cli_words.specs.Words.{IsGiven, IsSend, ReadsOnly}
use Rattle.cli_words.proofs.Reading.{passed_on}
use Rattle.cli_words.proofs.WordEnds.{between_only, from_part, to_part}
use Rattle.cny_version.proofs.cny-base.Passing.{err_is}
use Rattle.cli_words.proofs.words.read_between.Goals as goal

pub returns-in_err-from : goal.returns-in_err-from
returns-in_err-from c =
    let word = c.args.word.now in
    let other = c.args.other.now in
    err_is (ReadsOnly (IsSend (word ∷ other ∷ []))) c.from_residual.result c.in_err-from.field-0.0 c.from_residual.ensures.1
    (passed_on (IsGiven word) (IsSend (word ∷ other ∷ [])) (from_part word other) c.in_err-from.field-0.0 c.in_err-from.ensures)

pub returns-in_err-to : goal.returns-in_err-to
returns-in_err-to c =
    let word = c.args.word.now in
    let other = c.args.other.now in
    err_is (ReadsOnly (IsSend (word ∷ other ∷ []))) c.from_residual-in_err-to.result c.in_err-to.field-0.0 c.from_residual-in_err-to.ensures.1
    (passed_on (IsGiven other) (IsSend (word ∷ other ∷ [])) (to_part word other) c.in_err-to.field-0.0 c.in_err-to.ensures)

pub returns : goal.returns
returns c = between_only c.args.word.now c.args.other.now c.in_ok-from.from c.in_ok-to.to c.in_ok-from.ensures c.in_ok-to.ensures
