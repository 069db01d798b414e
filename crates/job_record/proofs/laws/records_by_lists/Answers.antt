use Rattle.job_record.proofs.ByLists.{read_by, written_by}
use Rattle.job_record.proofs.laws.records_by_lists.Goals as goal

pub returns : goal.returns
returns c = record { read = read_by; written = written_by }
