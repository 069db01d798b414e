use Rattle.outcome_laws.proofs.StepsKept.{same_since, unedited_since}
use Rattle.outcome_laws.proofs.RollingBack.{ends_restored}
use Rattle.outcome_laws.proofs.histories.restored_jobs.Goals as goal

pub returns-clause-unedited : goal.returns-clause-unedited
returns-clause-unedited c o olds rest events cuts s t state stack tree folds later spared = unedited_since o olds rest events cuts s t state stack tree later folds spared

pub returns-clause-whole : goal.returns-clause-whole
returns-clause-whole c o olds rest events cuts s t state stack tree folds later none = same_since o olds rest events cuts s t state stack tree later folds none

pub returns-clause-restored : goal.returns-clause-restored
returns-clause-restored c o olds s input outcome state dirs stack unedited is = ends_restored s state.root o olds stack unedited input outcome dirs is
