use Rattle.std.proofs.Common.{◌≤◌, length, map, arith}
use Rattle.std.specs.Prelude.{string_bytes}
use Rattle.std.proofs.lemmas.Grind.{common_steps}
use Rattle.cli_words.proofs.WordEnds.{no_long_move}
use Rattle.cli_words.proofs.words.read_move.Goals as goal

pub returns-then-not-is_empty : goal.returns-then-not-is_empty
returns-then-not-is_empty c =
    let words = map string_bytes c.args.words.now in
    let long : 3 ≤ length words = grind (arith, common_steps) in
    no_long_move c.args.way words long
