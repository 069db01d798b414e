use Rattle.std.proofs.Common.{take}
use Rattle.repository.specs.BetweenSteps.{AllFit}
use Rattle.repository.proofs.sizes.other_of_troves.Given as goal

abbrev pub invariant-loop-trove : goal.invariant-loop-trove
invariant-loop-trove l = AllFit l.contents (take l.trove-index l.troves)
