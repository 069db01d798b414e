use Rattle.std.proofs.Common.{◌+◌, ◌-◌, length, drop}
use Rattle.trove_stream.specs.Disjoint.{AreDisjoint}
use Rattle.trove_stream.proofs.disjoint.are_disjoint.Given as goal

abbrev pub invariant-merge : goal.invariant-merge
invariant-merge g l =
    AreDisjoint g.A.Meets.is_same (drop l.one l.ones) (drop l.other l.others) → AreDisjoint g.A.Meets.is_same l.ones l.others

abbrev pub decreases-merge : goal.decreases-merge
decreases-merge g l = (length l.ones - l.one) + (length l.others - l.other)
