use Rattle.std.proofs.Common.{map, sym, subst, ◌∙◌}
use Rattle.std.specs.Prelude.{string_bytes}
use Rattle.cli_words.specs.Words.{IsMove, IsSend, IsUpdate, ReadsWords}
use Rattle.cli_words.proofs.Reading.{behind_is, behind_read, of_form, of_this_form, other_is}
use Rattle.cli_words.proofs.words.read_words.Goals as goal

pub returns-in-Specs-clause-read : goal.returns-in-Specs-clause-read
returns-in-Specs-clause-read c expected are = behind_read (map string_bytes c.args.words.now) _ c.words_behind-rest.ensures IsSend c.read_send.result c.read_send.ensures expected (of_form (map string_bytes c.args.words.now) _ (sym c.first_form.ensures ∙ c.in-Specs.is) expected are)

pub returns-in-Specs-clause-is : goal.returns-in-Specs-clause-is
returns-in-Specs-clause-is c = of_this_form (map string_bytes c.args.words.now) _ (sym c.first_form.ensures ∙ c.in-Specs.is) c.read_send.result (behind_is (map string_bytes c.args.words.now) _ c.words_behind-rest.ensures IsSend c.read_send.result c.read_send.ensures)

pub returns-in-LabelAndSpec-clause-read : goal.returns-in-LabelAndSpec-clause-read
returns-in-LabelAndSpec-clause-read c expected are = behind_read (map string_bytes c.args.words.now) _ c.words_behind-rest.ensures (IsMove c.in-LabelAndSpec.way) c.read_move.result c.read_move.ensures expected (of_form (map string_bytes c.args.words.now) _ (sym c.first_form.ensures ∙ c.in-LabelAndSpec.is) expected are)

pub returns-in-LabelAndSpec-clause-is : goal.returns-in-LabelAndSpec-clause-is
returns-in-LabelAndSpec-clause-is c = of_this_form (map string_bytes c.args.words.now) _ (sym c.first_form.ensures ∙ c.in-LabelAndSpec.is) c.read_move.result (behind_is (map string_bytes c.args.words.now) _ c.words_behind-rest.ensures (IsMove c.in-LabelAndSpec.way) c.read_move.result c.read_move.ensures)

pub returns-in-Updates-clause-read : goal.returns-in-Updates-clause-read
returns-in-Updates-clause-read c expected are = behind_read (map string_bytes c.args.words.now) _ c.words_behind-rest.ensures IsUpdate c.read_update.result c.read_update.ensures expected (of_form (map string_bytes c.args.words.now) _ (sym c.first_form.ensures ∙ c.in-Updates.is) expected are)

pub returns-in-Updates-clause-is : goal.returns-in-Updates-clause-is
returns-in-Updates-clause-is c = of_this_form (map string_bytes c.args.words.now) _ (sym c.first_form.ensures ∙ c.in-Updates.is) c.read_update.result (behind_is (map string_bytes c.args.words.now) _ c.words_behind-rest.ensures IsUpdate c.read_update.result c.read_update.ensures)

pub returns-in-Others-clause-read : goal.returns-in-Others-clause-read
returns-in-Others-clause-read c expected are =
    let same = of_form (map string_bytes c.args.words.now) _ (sym c.first_form.ensures ∙ c.in-Others.is) expected are in
    subst (λ e. ReadsWords e c.read_others.result) (sym same) c.read_others.ensures

pub returns-in-Others-clause-is : goal.returns-in-Others-clause-is
returns-in-Others-clause-is c =
    of_this_form (map string_bytes c.args.words.now) _ (sym c.first_form.ensures ∙ c.in-Others.is) c.read_others.result
    (other_is _ c.read_others.result c.read_others.ensures)
