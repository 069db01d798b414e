use Rattle.std.proofs.Common.{[], ◌∷◌}
use Rattle.cli_words.specs.Words.{IsGiven, IsSend, ReadsOnly}
use Rattle.cli_words.proofs.Reading.{passed_on}
use Rattle.cli_words.proofs.WordEnds.{whole_only, whole_part}
use Rattle.cny_version.proofs.cny-base.Passing.{err_is}
use Rattle.cli_words.proofs.words.read_whole.Goals as goal

pub returns-in_err-to : goal.returns-in_err-to
returns-in_err-to c =
    let word = c.args.word.now in
    err_is (ReadsOnly (IsSend (word ∷ []))) c.from_residual.result c.in_err-to.field-0.0 c.from_residual.ensures.1
    (passed_on (IsGiven word) (IsSend (word ∷ [])) (whole_part word) c.in_err-to.field-0.0 c.in_err-to.ensures)

pub returns : goal.returns
returns c = whole_only c.args.word.now c.in_ok-to.to c.in_ok-to.ensures
