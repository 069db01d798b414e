use Rattle.std.proofs.Common.{◌-◌, length}
use Rattle.repo_load.specs.Reading.{AreTrovesTo}
use Rattle.repo_load.proofs.commit_reading.troves_behind.Given as goal

abbrev pub invariant-items : goal.invariant-items
invariant-items l = AreTrovesTo l.bytes l.troves.items l.at

abbrev pub decreases-items : goal.decreases-items
decreases-items l = length l.bytes - l.at
