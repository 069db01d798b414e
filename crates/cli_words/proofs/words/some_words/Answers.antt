use Rattle.cli_words.proofs.Reading.{something}
use Rattle.cli_words.proofs.words.some_words.Goals as goal

pub returns : goal.returns
returns c words = something words
