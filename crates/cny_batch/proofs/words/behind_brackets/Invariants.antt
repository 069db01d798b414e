use Rattle.std.proofs.Common.{◌≤◌, take}
use Rattle.cny_batch.specs.Reading.{AreBehind}
use Rattle.cny_batch.proofs.words.behind_brackets.Given as goal

abbrev pub invariant-loop-byte : goal.invariant-loop-byte
invariant-loop-byte l = AreBehind l.behind (take l.byte-index l.text) × (l.behind ≤ l.byte-index)
