use Rattle.std.proofs.Common.{sym, subst}
use Rattle.trove_spec.specs.Spec.{IsSpecText}
use Rattle.cli_words.specs.Words.{ReadsOnly}
use Rattle.cli_words.proofs.Reading.{spec_reads}
use Rattle.cli_words.proofs.words.spec_of.Goals as goal

pub returns : goal.returns
returns c = subst (ReadsOnly (IsSpecText c.args.word.now)) (sym c.or_usage.ensures) (spec_reads c.args.word.now c.read.result c.read.ensures.found c.read.ensures.only)
