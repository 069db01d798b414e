use Rattle.std.proofs.Common.{◌∙◌}
use Rattle.rollback_stack.proofs.Given.{same_entries}
use Rattle.rollback_stack.proofs.entries.changes_of.Goals as goal

pub returns-clause-given : goal.returns-clause-given
returns-clause-given c = λ given. c.in_ok-changes.ensures ∙ same_entries c.args.entries.now given
