use Rattle.std.proofs.Common.{take}
use Rattle.change_set.specs.Index.{IsIndexOf}
use Rattle.change_set.proofs.recorded.Index.of.Given as goal

abbrev pub invariant-loop-part : goal.invariant-loop-part
invariant-loop-part l = IsIndexOf (take l.part-index l.parts) l.index
