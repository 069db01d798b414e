use Rattle.cny_base.specs.Compare.{AreSameBefore}
use Rattle.cny_base.proofs.compare.first_byte_by_byte.Given as goal

abbrev pub invariant-loop-at : goal.invariant-loop-at
invariant-loop-at l = AreSameBefore l.a l.b l.at
