use Rattle.std.proofs.Common.{sym, ◌∙◌}
use Rattle.cny_batch.proofs.Commands.{last_of, some_words}
use Rattle.cny_batch.proofs.words.last_size.Goals as goal

pub returns : goal.returns
returns c =
    c.size_of.ensures
    ∙ sym (last_of c.args.words.now c.args.part.now (some_words _ c.get.result.now c.args.words.now c.get.ensures (sym c.is_empty.ensures ∙ c.if-is_empty.false)))
