use Rattle.std.proofs.Common.{◌≡◌, take, drop}
use Rattle.cny_batch.specs.Words.{parts_from, parts_of}
use Rattle.cny_batch.proofs.Parts.{in_front}
use Rattle.cny_batch.proofs.words.separator_of.Given as goal

abbrev pub invariant-loop-at : goal.invariant-loop-at
invariant-loop-at l = parts_of l.text ≡ in_front (take l.at l.text) (parts_from l.in_brackets (drop l.at l.text))
