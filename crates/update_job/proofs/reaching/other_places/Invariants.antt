use Rattle.update_job.proofs.Leaving.{OthersSoFar}
use Rattle.update_job.proofs.reaching.other_places.Given as goal

abbrev pub invariant-loop-place : goal.invariant-loop-place
invariant-loop-place l = OthersSoFar l.places l.others.items l.place
