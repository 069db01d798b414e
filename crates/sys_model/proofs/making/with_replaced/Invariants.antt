use Rattle.std.proofs.Common.{◌≡◌, map, take}
use Rattle.sys_model.specs.Wanted.{in_place_of}
use Rattle.sys_model.proofs.making.with_replaced.Given as goal

abbrev pub invariant-loop-trove : goal.invariant-loop-trove
invariant-loop-trove l = l.troves.items ≡ map (in_place_of l.found) (take l.trove-index l.list)
