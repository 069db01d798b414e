use Rattle.std.proofs.Common.{length}
use Rattle.repo_mirror.specs.Sums.{IsSummed}
use Rattle.repo_mirror.proofs.Gathering.{Gathers}
use Rattle.repo_mirror.proofs.missing_troves.missing.Given as goal

abbrev pub invariant-commits : goal.invariant-commits
invariant-commits l = IsSummed l.sent × Gathers l.ids l.catalogue.troves l.counts l.rest l.left l.sent.troves.items

abbrev pub decreases-commits : goal.decreases-commits
decreases-commits l = length l.left
