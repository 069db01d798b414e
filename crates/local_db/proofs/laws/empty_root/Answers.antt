use Rattle.local_db.proofs.Other as proof
use Rattle.local_db.proofs.laws.empty_root.Goals as goal

pub returns : goal.returns
returns c = proof.empty_law
