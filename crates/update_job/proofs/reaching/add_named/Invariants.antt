use Rattle.std.proofs.Common.{take}
use Rattle.update_job.specs.Places.{HasAddedPlaces, name_of_id}
use Rattle.update_job.proofs.reaching.add_named.Given as goal

abbrev pub invariant-loop-id : goal.invariant-loop-id
invariant-loop-id l = HasAddedPlaces name_of_id l.installed l.barred (take l.id-index l.ids) l.fn.places l.places
