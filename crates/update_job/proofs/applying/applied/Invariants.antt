use Rattle.std.proofs.Common.{take}
use Rattle.update_job.specs.Made.{AreMade}
use Rattle.update_job.proofs.applying.applied.Given as goal

abbrev pub invariant-loop-part : goal.invariant-loop-part
invariant-loop-part l = AreMade l.installed (take l.part-index l.parts) l.troves.items
