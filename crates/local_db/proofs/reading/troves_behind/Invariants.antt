use Rattle.std.proofs.Common.{◌-◌, length}
use Rattle.local_db.specs.Reading.{AreTrovesTo}
use Rattle.local_db.proofs.reading.troves_behind.Given as goal

abbrev pub invariant-items : goal.invariant-items
invariant-items l = AreTrovesTo l.format l.bytes l.troves.items l.at

abbrev pub decreases-items : goal.decreases-items
decreases-items l = length l.bytes - l.at
