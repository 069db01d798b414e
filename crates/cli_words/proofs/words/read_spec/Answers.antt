use Rattle.std.proofs.Common.{sym, ◌∙◌}
use Rattle.trove_spec.specs.Spec.{IsSpecText}
use Rattle.cli_words.specs.Words.{IsGiven, ReadsOnly}
use Rattle.cli_words.proofs.Reading.{passed_on}
use Rattle.cli_words.proofs.WordEnds.{given_only, given_part, no_given}
use Rattle.cny_version.proofs.cny-base.Passing.{err_is}
use Rattle.cli_words.proofs.words.read_spec.Goals as goal

pub returns-then-not-is_short : goal.returns-then-not-is_short
returns-then-not-is_short c = no_given c.args.word.now (sym c.is_short.ensures ∙ c.if-not-is_short.true)

pub returns-in_err-spec : goal.returns-in_err-spec
returns-in_err-spec c =
    let word = c.args.word.now in
    err_is (ReadsOnly (IsGiven word)) c.from_residual.result c.in_err-spec.field-0.0 c.from_residual.ensures.1
    (passed_on (IsSpecText word) (IsGiven word) (given_part word) c.in_err-spec.field-0.0 c.in_err-spec.ensures)

pub returns : goal.returns
returns c = given_only c.args.word.now c.in_ok-spec.spec c.in_ok-text.text (sym c.is_short.ensures ∙ c.if-not-is_short.false) c.in_ok-spec.ensures c.in_ok-text.ensures
