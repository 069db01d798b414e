use Rattle.std.proofs.Common.{◌≡◌, take}
use Rattle.std.specs.List.{count_by}
use Rattle.cny_base.specs.Compare.{differing}
use Rattle.cny_base.proofs.compare.count_different.Given as goal

abbrev pub invariant-loop-at : goal.invariant-loop-at
invariant-loop-at l = l.count ≡ count_by (λ differs. differs) (take l.at (differing l.a l.b))
