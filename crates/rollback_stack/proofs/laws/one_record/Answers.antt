use Rattle.local_db.proofs.Spellings.{Distinct}
use Rattle.rollback_stack.proofs.OneRecord as proof
use Rattle.rollback_stack.proofs.laws.one_record.Goals as goal

pub returns-clause-one : goal.returns-clause-one
returns-clause-one c f x n after before other es ds h g =
    let distinct : Distinct = record { ids = c.distinct_ids.ensures.bytes; troves = c.distinct_troves.ensures.unique; rels = c.distinct_rels.ensures.unique } in
    proof.one c.one_result.ensures distinct f x n after before other es ds h g

pub returns-clause-several : goal.returns-clause-several
returns-clause-several c f x n after before other jobs others long h g =
    let distinct : Distinct = record { ids = c.distinct_ids.ensures.bytes; troves = c.distinct_troves.ensures.unique; rels = c.distinct_rels.ensures.unique } in
    proof.several c.one_result.ensures distinct f x n after before other jobs others long h g
