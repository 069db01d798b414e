use Rattle.std.proofs.Common.{arith, ap, ◌∙◌, take}
use Rattle.std.specs.List.{list_all}
use Rattle.cny_base.specs.Name.{is_word_byte}
use Rattle.cny_dep.proofs.Fronts.{word_len-le, word_passes}
use Rattle.cny_dep.proofs.flavor_reading.split_word.Goals as goal

pub split_at-requires : goal.split_at-requires
split_at-requires c = omega (arith, word_len-le c.args.bytes.now)

pub returns-clause-passes : goal.returns-clause-passes
returns-clause-passes c =
    ap (list_all is_word_byte) (c.split_at.ensures.front ∙ ap (λ n. take n c.args.bytes.now) c.word_len.ensures) ∙ word_passes c.args.bytes.now
