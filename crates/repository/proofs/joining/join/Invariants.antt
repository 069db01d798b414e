use Rattle.std.proofs.Common.{◌≡◌, ◌++◌, take}
use Rattle.repository.proofs.joining.join.Given as goal

abbrev pub invariant-loop-trove : goal.invariant-loop-trove
invariant-loop-trove l = l.catalogue ≡ record { commits = l.fn.catalogue.commits; troves = l.fn.catalogue.troves ++ take l.trove-index l.troves }
