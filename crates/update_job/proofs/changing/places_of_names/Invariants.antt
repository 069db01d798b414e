use Rattle.std.proofs.Common.{take}
use Rattle.update_job.proofs.Lists.{RootsSoFar}
use Rattle.update_job.proofs.changing.places_of_names.Given as goal

abbrev pub invariant-loop-name : goal.invariant-loop-name
invariant-loop-name l = RootsSoFar l.installed (take l.name-index l.names) l.places
