use Rattle.cny_stream.proofs.Records.{same_front, encoded_alike, not_root}
use Rattle.cny_stream.proofs.record_laws.distinct_records.Goals as goal

pub returns-clause-unique : goal.returns-clause-unique
returns-clause-unique c = same_front

pub returns-clause-both : goal.returns-clause-both
returns-clause-both c = λ rec. (not_root rec, encoded_alike rec)
