use Rattle.std.proofs.Common.{take}
use Rattle.trove_stream.specs.declared.parts.TroveParts.{TroveParts}
use Rattle.dep_closure.proofs.Noted.{AllNotedSoFar}
use Rattle.dep_closure.proofs.index.note_requirers.Given as goal

abbrev pub invariant-loop-trove : goal.invariant-loop-trove
invariant-loop-trove l = AllNotedSoFar (λ (t : TroveParts). t.requires_) l.fn.index l.index (take l.trove-index l.list)
