use Rattle.std.proofs.Common.{◌-◌, length}
use Rattle.job_record.specs.Reading.{AreDeltasTo}
use Rattle.job_record.proofs.deltas.deltas_behind.Given as goal

abbrev pub invariant-items : goal.invariant-items
invariant-items l = AreDeltasTo l.format l.bytes l.number l.deltas.items l.at

abbrev pub decreases-items : goal.decreases-items
decreases-items l = length l.bytes - l.at
