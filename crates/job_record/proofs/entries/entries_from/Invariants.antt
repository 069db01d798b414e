use Rattle.std.proofs.Common.{◌-◌, length}
use Rattle.job_record.specs.Reading.{AreEntriesTo}
use Rattle.job_record.proofs.entries.entries_from.Given as goal

abbrev pub invariant-items : goal.invariant-items
invariant-items l = AreEntriesTo l.bytes l.from l.entries.items l.at

abbrev pub decreases-items : goal.decreases-items
decreases-items l = length l.bytes - l.at
