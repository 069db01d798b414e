use Rattle.cny_stream.proofs.Faults.{unexpected, open_still}
use Rattle.cny_stream.proofs.laws.item_faults.Goals as goal

pub returns-clause-unexpected : goal.returns-clause-unexpected
returns-clause-unexpected c = unexpected

pub returns-clause-undecided : goal.returns-clause-undecided
returns-clause-undecided c = open_still
