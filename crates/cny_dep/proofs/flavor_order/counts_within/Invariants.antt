use Rattle.std.proofs.Common.{◌≡◌, ◌+◌, take}
use Rattle.std.specs.List.{sum_by}
use Rattle.cny_dep.specs.Canonical.{set_count}
use Rattle.cny_dep.proofs.flavor_order.counts_within.Given as goal

abbrev pub invariant-loop-set : goal.invariant-loop-set
invariant-loop-set l = sum_by set_count (take l.set-index l.sets) + l.left ≡ l.most
