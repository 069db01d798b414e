use Rattle.std.proofs.Common.{◌≡◌, map, take}
use Rattle.trove_spec.proofs.expanding.copies.Given as goal

abbrev pub invariant-loop-trove : goal.invariant-loop-trove
invariant-loop-trove l = l.items.items ≡ take l.trove-index (map (λ trove. trove.now) l.troves)
