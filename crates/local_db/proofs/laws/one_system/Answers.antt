use Rattle.local_db.proofs.OneSystem as proof
use Rattle.local_db.proofs.laws.one_system.Goals as goal

pub returns : goal.returns
returns c = proof.determined c.one_result.ensures
    (record { ids = c.distinct_ids.ensures.bytes; troves = c.distinct_troves.ensures.unique; rels = c.distinct_rels.ensures.unique })
