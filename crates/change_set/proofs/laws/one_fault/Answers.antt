use Rattle.change_set.proofs.GoodItems.{one_refusal, no_fault, no_more}
use Rattle.change_set.proofs.laws.one_fault.Goals as goal

pub returns-clause-unique : goal.returns-clause-unique
returns-clause-unique c = one_refusal

pub returns-clause-excluded : goal.returns-clause-excluded
returns-clause-excluded c = no_fault

pub returns-clause-no_prefix : goal.returns-clause-no_prefix
returns-clause-no_prefix c = no_more
