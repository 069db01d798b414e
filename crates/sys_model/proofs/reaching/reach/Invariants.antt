use Rattle.std.proofs.Common.{◌-◌, length}
use Rattle.sys_model.specs.Growing.{AreGathered, HasMore}
use Rattle.sys_model.proofs.reaching.reach.Given as goal

abbrev pub invariant-loop-done : goal.invariant-loop-done
invariant-loop-done l = record {
  gathered : AreGathered l.catalogue.troves l.roots l.places l.done;
  more : HasMore l.fn.places l.places;
}

abbrev pub decreases-loop-done : goal.decreases-loop-done
decreases-loop-done l = length l.catalogue.troves - l.done
