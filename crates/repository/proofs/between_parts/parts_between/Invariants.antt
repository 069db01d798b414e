use Rattle.std.proofs.Common.{All, take}
use Rattle.change_set.specs.ChangeSet.{IsPart}
use Rattle.repository.specs.Between.{ArePartsBetween}
use Rattle.repository.proofs.between_parts.parts_between.Given as goal

abbrev pub invariant-loop-trove : goal.invariant-loop-trove
invariant-loop-trove l = record { told : ArePartsBetween l.old (take l.trove-index l.fresh) l.parts.items; valid : All IsPart l.parts.items }
