use Rattle.std.proofs.Common.{◌≡◌, IsTrue, true, refl, sym, ap, ◌∙◌}
use Rattle.cny_version.specs.Filled.{no_label}
use Rattle.cny_version.specs.Label.{label_text, is_label}
use Rattle.cny_version.specs.Reading.{label_found}
use Rattle.cny_version.proofs.ReaderAnswers.{ok_found, only_found, bad_exactly}
use Rattle.cny_version.proofs.LabelTexts.{whole_back, label_sound}
use Rattle.cny_version.proofs.label.Label.read.Goals as goal

pub returns-clause-value : goal.returns-clause-value
returns-clause-value c =
    ok_found c.found.result (label_found true no_label c.args.text.now) (λ l. c.args.text.now ≡ label_text l) c.found.ensures
    (λ l found. sym ((label_sound true no_label c.args.text.now l found).whole_form refl))

pub returns-clause-ok : goal.returns-clause-ok
returns-clause-ok c =
    ok_found c.found.result (label_found true no_label c.args.text.now) (λ l. IsTrue (is_label l)) c.found.ensures
    (λ l found. (label_sound true no_label c.args.text.now l found).is)

pub returns-clause-only : goal.returns-clause-only
returns-clause-only c l is text =
    only_found c.found.result (label_found true no_label c.args.text.now) l c.found.ensures
    (ap (label_found true no_label) text ∙ whole_back true no_label l is)

pub returns-clause-bad : goal.returns-clause-bad
returns-clause-bad c =
    bad_exactly c.found.result (label_found true no_label c.args.text.now) c.found.ensures
    (λ l found. let k = label_sound true no_label c.args.text.now l found in (l, k.is, sym (k.whole_form refl)))
    (λ inside. (inside.0, ap (label_found true no_label) inside.2 ∙ whole_back true no_label inside.0 inside.1))
