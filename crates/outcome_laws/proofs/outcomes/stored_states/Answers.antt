use Rattle.conary_cli.proofs.cli-call.cny-laws.EditedSystems.{the_system}
use Rattle.outcome_laws.proofs.outcomes.stored_states.Goals as goal

pub returns : goal.returns
returns c x y s root repository = record { root = the_system x s.root root; repository = repository.repository }
