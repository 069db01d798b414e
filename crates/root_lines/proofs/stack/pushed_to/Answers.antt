use Rattle.std.proofs.Common.{sym, subst}
use Rattle.job_record.specs.Changed.{AreChangedNames}
use Rattle.rollback_stack.specs.Entries.{AreEntries}
use Rattle.root_lines.proofs.stack.pushed_to.Goals as goal

pub push_puts-requires-clause-names : goal.push_puts-requires-clause-names
push_puts-requires-clause-names c = subst (AreChangedNames c.in_ok-job.job.before c.in_ok-db.db.installed) (sym c.as_slice.ensures.value) c.in_ok-job.ensures.names

pub push_puts-requires-clause-entries : goal.push_puts-requires-clause-entries
push_puts-requires-clause-entries c = subst AreEntries (sym c.get-entries.ensures) c.in_ok-job.ensures.entries
