use Rattle.std.proofs.Common.{take}
use Rattle.update_job.specs.Lists.{HasTroveOf}
use Rattle.update_job.specs.Places.{ArePlacesOf}
use Rattle.update_job.proofs.changing.places_of_troves.Given as goal

abbrev pub invariant-loop-trove : goal.invariant-loop-trove
invariant-loop-trove l = ArePlacesOf l.installed (HasTroveOf (take l.trove-index l.troves)) l.places
