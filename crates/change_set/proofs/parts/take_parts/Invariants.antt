use Rattle.std.proofs.Common.{◌-◌, length}
use Rattle.change_set.specs.Reading.{ArePartsTo}
use Rattle.change_set.proofs.parts.take_parts.Given as goal

abbrev pub invariant-items : goal.invariant-items
invariant-items l = ArePartsTo l.bytes l.parts.items l.at

abbrev pub decreases-items : goal.decreases-items
decreases-items l = length l.bytes - l.at
