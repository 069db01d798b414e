use Rattle.std.proofs.Common.{sym, subst}
use Rattle.update_job.specs.Changes.{AreChanges}
use Rattle.root_lines.proofs.newest_job.names_of.Goals as goal

pub changed_names-requires-clause-changes : goal.changed_names-requires-clause-changes
changed_names-requires-clause-changes c = subst (AreChanges c.args.before.now c.args.db.now.installed) (sym c.get.ensures) c.in_ok-changes.ensures
