use Rattle.std.proofs.Common.{take}
use Rattle.dep_closure.specs.Closed.{provides_of}
use Rattle.dep_closure.proofs.Noted.{AllNotedSoFar}
use Rattle.dep_closure.proofs.index.note_providers.Given as goal

abbrev pub invariant-loop-trove : goal.invariant-loop-trove
invariant-loop-trove l = AllNotedSoFar provides_of l.fn.index l.index (take l.trove-index l.list)
