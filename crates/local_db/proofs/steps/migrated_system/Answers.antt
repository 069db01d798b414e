use Rattle.local_db.proofs.Other as proof
use Rattle.local_db.proofs.steps.migrated_system.Goals as goal

pub returns : goal.returns
returns c = proof.migration_law
