use Rattle.std.proofs.Common.{◌-◌, length}
use Rattle.update_job.proofs.Searching.{IsGathered}
use Rattle.update_job.proofs.reaching.places_reached.Given as goal

abbrev pub invariant-loop-done : goal.invariant-loop-done
invariant-loop-done l = IsGathered l.installed l.barred l.starts l.places l.done

abbrev pub decreases-loop-done : goal.decreases-loop-done
decreases-loop-done l = length l.installed - l.done
