use Rattle.std.proofs.Common.{take}
use Rattle.dep_closure.proofs.Noted.{NotedSoFar}
use Rattle.dep_closure.proofs.index.note_deps.Given as goal

abbrev pub invariant-loop-dep : goal.invariant-loop-dep
invariant-loop-dep l = NotedSoFar l.fn.index l.index l.name (take l.dep-index l.deps)
