use Rattle.local_db.proofs.OneSystem as proof
use Rattle.local_db.proofs.Spellings.{same_room}
use Rattle.local_db.proofs.laws.distinct_databases.Goals as goal

pub returns-clause-unique : goal.returns-clause-unique
returns-clause-unique c = proof.same_database (record { ids = c.distinct_ids.ensures.bytes; troves = c.distinct_troves.ensures.unique; rels = c.distinct_rels.ensures.unique })

pub returns-clause-length : goal.returns-clause-length
returns-clause-length c = same_room
