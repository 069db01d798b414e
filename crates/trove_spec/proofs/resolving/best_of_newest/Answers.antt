use Rattle.trove_spec.proofs.Newest.{chosen_among, chosen_newest, chosen_best_of, chosen_none_of}
use Rattle.trove_spec.proofs.resolving.best_of_newest.Goals as goal

pub returns-clause-among : goal.returns-clause-among
returns-clause-among c = chosen_among

pub returns-clause-newest : goal.returns-clause-newest
returns-clause-newest c = chosen_newest

pub returns-clause-best : goal.returns-clause-best
returns-clause-best c = chosen_best_of

pub returns-clause-none : goal.returns-clause-none
returns-clause-none c = chosen_none_of
