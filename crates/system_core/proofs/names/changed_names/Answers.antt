use Rattle.std.proofs.Common.{sym, subst}
use Rattle.rollback_stack.specs.job-record.Changed.{AreChangedNames}
use Rattle.system_core.proofs.JobChanges as names
use Rattle.system_core.proofs.names.changed_names.Goals as goal

pub returns : goal.returns
returns c =
    let before = c.args.before.now in
    let after = c.args.after.now in
    subst (AreChangedNames before after) (sym c.in_ok-names.ensures) (names.changed_names c.distinct_troves.ensures.unique before after c.requires.before c.requires.after c.args.changes.now c.requires.changes)
