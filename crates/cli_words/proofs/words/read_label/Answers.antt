use Rattle.std.proofs.Common.{sym, subst}
use Rattle.cli_words.specs.Words.{IsLabelWord, ReadsOnly}
use Rattle.cli_words.proofs.Reading.{label_reads}
use Rattle.cli_words.proofs.words.read_label.Goals as goal

pub returns : goal.returns
returns c = subst (ReadsOnly (IsLabelWord c.args.word.now)) (sym c.or_usage.ensures) (label_reads c.args.word.now c.read.result c.read.ensures.value c.read.ensures.ok c.read.ensures.only c.read.ensures.bad.0)
