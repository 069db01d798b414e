use Rattle.std.proofs.Common.{◌-◌, length}
use Rattle.trove_spec.proofs.Reaching.{IsGathered}
use Rattle.trove_spec.proofs.expanding.places_reached.Given as goal

abbrev pub invariant-loop-done : goal.invariant-loop-done
invariant-loop-done l = IsGathered l.catalogue.troves l.roots l.places l.done

abbrev pub decreases-loop-done : goal.decreases-loop-done
decreases-loop-done l = length l.catalogue.troves - l.done
