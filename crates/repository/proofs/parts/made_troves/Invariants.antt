use Rattle.std.proofs.Common.{take}
use Rattle.repository.specs.Parts.{AreMade}
use Rattle.repository.proofs.parts.made_troves.Given as goal

abbrev pub invariant-loop-part : goal.invariant-loop-part
invariant-loop-part l = AreMade l.committed.troves (take l.part-index l.parts) l.added.troves
