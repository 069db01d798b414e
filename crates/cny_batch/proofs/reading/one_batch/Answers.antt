use Rattle.cny_batch.proofs.OneBatch.{one_list, no_batch_with_fault, one_fault}
use Rattle.cny_batch.proofs.reading.one_batch.Goals as goal

pub returns-clause-lines : goal.returns-clause-lines
returns-clause-lines c = one_list

pub returns-clause-excluded : goal.returns-clause-excluded
returns-clause-excluded c = no_batch_with_fault

pub returns-clause-fault : goal.returns-clause-fault
returns-clause-fault c = one_fault
