use Rattle.std.proofs.Common.{◌≡◌, ◌≤◌, length, map, arith}
use Rattle.std.proofs.lemmas.Grind.{common_steps}
use Rattle.std.specs.Prelude.{string_bytes}
use Rattle.cli_words.specs.Words.{AreGivenSpecs, IsUpdateWith, ReadsOnly}
use Rattle.cli_words.proofs.Reading.{passed_on}
use Rattle.cli_words.proofs.SpecLists.{no_update_of_many, no_update_of_none, specs_part, update_only}
use Rattle.cny_version.proofs.cny-base.Passing.{err_is}
use Rattle.cli_words.proofs.words.read_updates.Goals as goal

pub returns-then-is_empty : goal.returns-then-is_empty
returns-then-is_empty c =
    let words = map string_bytes c.args.words.now in
    let none : length words ≡ 0 = grind (arith, common_steps) in
    no_update_of_none c.args.options words none

pub returns-then-words-gt-LIST_LIMIT : goal.returns-then-words-gt-LIST_LIMIT
returns-then-words-gt-LIST_LIMIT c =
    let words = map string_bytes c.args.words.now in
    let many : 65 ≤ length words = grind (arith, common_steps) in
    no_update_of_many c.args.options words many

pub returns-in_err-specs : goal.returns-in_err-specs
returns-in_err-specs c =
    let words = map string_bytes c.args.words.now in
    err_is (ReadsOnly (IsUpdateWith c.args.options words)) c.from_residual.result c.in_err-specs.field-0.0 c.from_residual.ensures.1
    (passed_on (AreGivenSpecs words) (IsUpdateWith c.args.options words) (specs_part c.args.options words) c.in_err-specs.field-0.0 c.in_err-specs.ensures)

pub returns : goal.returns
returns c =
    let words = map string_bytes c.args.words.now in
    let some : 1 ≤ length words = grind (arith, common_steps) in
    let few : length words ≤ 64 = grind (arith, common_steps) in
    update_only c.args.options words c.in_ok-specs.specs some few c.in_ok-specs.ensures
