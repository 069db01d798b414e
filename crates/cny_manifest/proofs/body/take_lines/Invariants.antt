use Rattle.std.proofs.Common.{length}
use Rattle.cny_manifest.specs.Grammar.{InBody}
use Rattle.cny_manifest.specs.Reading.{Runs}
use Rattle.cny_manifest.proofs.body.take_lines.Given as goal

abbrev pub invariant-lines : goal.invariant-lines
invariant-lines l = Runs (InBody l.fn.draft) l.fn.bytes (InBody l.draft) l.rest

abbrev pub decreases-lines : goal.decreases-lines
decreases-lines l = length l.rest
