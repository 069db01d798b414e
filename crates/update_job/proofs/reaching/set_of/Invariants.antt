use Rattle.std.proofs.Common.{take}
use Rattle.update_job.specs.Places.{HasSame}
use Rattle.update_job.proofs.reaching.set_of.Given as goal

abbrev pub invariant-loop-place : goal.invariant-loop-place
invariant-loop-place l = HasSame (take l.place-index l.places) l.set
