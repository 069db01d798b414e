use Rattle.std.proofs.Common.{◌≡◌, All, map, take}
use Rattle.change_set.specs.trove-parts.Id.{IsTroveId}
use Rattle.repo_mirror.proofs.Asked.{id_of}
use Rattle.repo_mirror.proofs.asking.ids_of.Given as goal

abbrev pub invariant-loop-trove : goal.invariant-loop-trove
invariant-loop-trove l = (l.ids.items ≡ map id_of (take l.trove-index l.troves)) × All IsTroveId l.ids.items
