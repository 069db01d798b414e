use Rattle.std.proofs.Common.{length, ◌-◌}
use Rattle.repo_mirror.proofs.IdLists.{AreReadTo}
use Rattle.repo_mirror.proofs.request.read_ids.Given as goal

abbrev pub invariant-ids : goal.invariant-ids
invariant-ids l = AreReadTo l.bytes l.ids.items l.at

abbrev pub decreases-ids : goal.decreases-ids
decreases-ids l = length l.bytes - l.at
