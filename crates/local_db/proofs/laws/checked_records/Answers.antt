use Rattle.local_db.proofs.Other as proof
use Rattle.local_db.proofs.laws.checked_records.Goals as goal

pub returns : goal.returns
returns c = proof.checks_law
