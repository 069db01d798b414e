use Rattle.std.proofs.Common.{length}
use Rattle.cny_batch.proofs.Lines.{AreRead}
use Rattle.cny_batch.proofs.reading.lines_of.Given as goal

abbrev pub invariant-lines : goal.invariant-lines
invariant-lines l = AreRead l.bytes l.lines.items l.rest

abbrev pub decreases-lines : goal.decreases-lines
decreases-lines l = length l.rest
