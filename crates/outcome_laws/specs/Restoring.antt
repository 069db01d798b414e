-- How a rollback of the newest job ends, at whose paths nothing was edited.
use Rattle.std.specs.Prelude.{Result, Ok, Err}
use Rattle.conary_cli.specs.cli-call.cny-base.declared.refusal.Refusal.{Refusal}
use Rattle.conary_cli.specs.cli-call.cny-laws.State.{Effect, State, after}
use Rattle.conary_cli.specs.cli-call.system-core.Job.{db_of}
use Rattle.conary_cli.specs.cli-call.system-core.Restoring.{IsException, IsRestored}
use Rattle.conary_cli.specs.cli-call.local-db.SystemState.{StackItem}

-- Each path of the job has its exact old node, every other path stays, the list is that before the job, and where the tree was the one
-- that the job left, it is the one before the job; or it is refused with one of the two exceptions, at the path that shows it.
abbrev pub EndsRestored : StackItem → State → Result Effect Refusal → Type 0
EndsRestored o s (Ok e) = IsRestored o s.root.tree (db_of (after s e.change).root) (after s e.change).root.tree
EndsRestored o s (Err why) = IsException o s.root.tree why
