use Rattle.std.proofs.Common.{◌-◌, length}
use Rattle.change_set.proofs.ContentsRead.{IsReading}
use Rattle.change_set.proofs.contents.take_contents.Given as goal

abbrev pub invariant-contents : goal.invariant-contents
invariant-contents l = IsReading l.bytes l.parts l.contents.items l.at l.item

abbrev pub decreases-contents : goal.decreases-contents
decreases-contents l = length l.bytes - l.at
