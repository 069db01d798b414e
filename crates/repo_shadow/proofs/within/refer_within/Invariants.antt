use Rattle.std.proofs.Common.{All, take}
use Rattle.repo_shadow.specs.Within.{RefersWithin}
use Rattle.repo_shadow.proofs.within.refer_within.Given as goal

abbrev pub invariant-loop-trove : goal.invariant-loop-trove
invariant-loop-trove l = All (RefersWithin l.catalogue.troves) (take l.trove-index l.troves)
