use Rattle.outcome_laws.proofs.SyncStays.{still, wants_after}
use Rattle.outcome_laws.proofs.syncs.synced_roots.Goals as goal

pub returns-clause-wanted : goal.returns-clause-wanted
returns-clause-wanted c = wants_after

pub returns-clause-still : goal.returns-clause-still
returns-clause-still c = still c.one_sync.ensures
