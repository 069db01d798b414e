use Rattle.std.proofs.Common.{take, map}
use Rattle.std.specs.Prelude.{string_bytes}
use Rattle.cli_words.specs.Words.{AreGivenSpecs, IsOnly}
use Rattle.cli_words.proofs.words.read_specs.Given as goal

abbrev pub invariant-loop-word : goal.invariant-loop-word
invariant-loop-word l = IsOnly (AreGivenSpecs (take l.word-index (map string_bytes l.words))) l.specs.items
