use Rattle.std.proofs.Common.{◌≡◌, ◌++◌, take}
use Rattle.repo_mirror.specs.Missing.{missing_of}
use Rattle.repo_mirror.specs.Sums.{IsSummed}
use Rattle.repo_mirror.proofs.sent.Sent.push_missing.Given as goal

abbrev pub invariant-loop-trove : goal.invariant-loop-trove
invariant-loop-trove l = IsSummed l.self × (l.self.troves.items ≡ l.initial.self.troves.items ++ missing_of l.ids (take l.trove-index l.commit))
