use Rattle.std.proofs.Common.{[], ◌∷◌}
use Rattle.cli_words.specs.Words.{IsGiven, IsLabelWord, IsMove, ReadsOnly}
use Rattle.cli_words.proofs.Reading.{passed_on}
use Rattle.cli_words.proofs.WordEnds.{label_part, move_only, spec_part}
use Rattle.cny_version.proofs.cny-base.Passing.{err_is}
use Rattle.cli_words.proofs.words.read_label_and_spec.Goals as goal

pub returns-in_err-label : goal.returns-in_err-label
returns-in_err-label c =
    let word = c.args.word.now in
    let other = c.args.other.now in
    err_is (ReadsOnly (IsMove c.args.way (word ∷ other ∷ []))) c.from_residual.result c.in_err-label.field-0.0 c.from_residual.ensures.1
    (passed_on (IsLabelWord word) (IsMove c.args.way (word ∷ other ∷ [])) (label_part c.args.way word other) c.in_err-label.field-0.0 c.in_err-label.ensures)

pub returns-in_err-given : goal.returns-in_err-given
returns-in_err-given c =
    let word = c.args.word.now in
    let other = c.args.other.now in
    err_is (ReadsOnly (IsMove c.args.way (word ∷ other ∷ []))) c.from_residual-in_err-given.result c.in_err-given.field-0.0 c.from_residual-in_err-given.ensures.1
    (passed_on (IsGiven other) (IsMove c.args.way (word ∷ other ∷ [])) (spec_part c.args.way word other) c.in_err-given.field-0.0 c.in_err-given.ensures)

pub returns : goal.returns
returns c = move_only c.args.way c.args.word.now c.args.other.now c.in_ok-label.label c.in_ok-given.given c.in_ok-label.ensures c.in_ok-given.ensures
