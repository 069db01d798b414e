use Rattle.change_set.specs.Reading.{last_name}
use Rattle.change_set.proofs.ContentValue.{other_name, no_record, no_rise}
use Rattle.std.proofs.Common.{not, ap, ◌∙◌}
use Rattle.std.specs.Str.{bytes_eq}
use Rattle.change_set.proofs.contents.content_of.Goals as goal

pub returns-then-ne-clause-bad : goal.returns-then-ne-clause-bad
returns-then-ne-clause-bad c = λ bad parts is content next.
    other_name parts (last_name c.args.contents.now) c.args.value.now c.split_at.result.0.now c.split_at.result.1.now c.digest-name.result content
    c.split_at.ensures.front c.split_at.ensures.back c.digest-name.ensures (c.if-ne.ensures ∙ ap (λ l. not (bytes_eq c.split_at.result.0.now l)) c.as_slice.ensures) next

pub returns-then-not-has-clause-bad : goal.returns-then-not-has-clause-bad
returns-then-not-has-clause-bad c = λ bad parts is content next.
    no_record parts (last_name c.args.contents.now) c.args.value.now c.split_at.result.1.now c.digest-name.result content
    c.split_at.ensures.back c.digest-name.ensures (c.if-not-has.ensures parts is) next

pub returns-then-not-comes_after-clause-bad : goal.returns-then-not-comes_after-clause-bad
returns-then-not-comes_after-clause-bad c = λ bad parts is content next.
    no_rise parts (last_name c.args.contents.now) c.args.value.now c.split_at.result.1.now c.digest-name.result content
    c.split_at.ensures.back c.digest-name.ensures c.if-not-comes_after.ensures.1 next
