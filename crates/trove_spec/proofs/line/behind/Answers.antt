use Rattle.std.proofs.Common.{sym, ap, ◌∙◌}
use Rattle.trove_spec.specs.Config.{ends_word}
use Rattle.trove_spec.proofs.ConfigLines.{key_there, key_missing}
use Rattle.trove_spec.proofs.line.behind.Goals as goal

pub returns-in_default : goal.returns-in_default
returns-in_default c = record { some = key_missing c.args.key.now c.args.line.now c.in_default.ensures.cases }

pub returns-then-ends_word : goal.returns-then-ends_word
returns-then-ends_word c =
    let key = key_there c.args.key.now c.args.line.now c.in-Some.ensures.cases.0 in
    let rest = c.in-Some.ensures.cases.1 in
    record { some = (key ∙ sym (ap ends_word rest) ∙ sym c.ends_word.ensures ∙ c.if-ends_word.true, rest) }
