use Rattle.job_record.proofs.Unique.{in_any_order, one_record}
use Rattle.job_record.proofs.laws.distinct_records.Goals as goal

pub returns : goal.returns
returns c = record {
  unique = λ f one other bytes is js.
      one_record (record { ids = c.distinct_ids.ensures.bytes; troves = c.distinct_troves.ensures.unique; rels = c.distinct_rels.ensures.unique })
      f one other bytes (in_any_order f one bytes is) (in_any_order f other bytes js);
}
