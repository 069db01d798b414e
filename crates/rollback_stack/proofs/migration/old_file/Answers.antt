use Rattle.std.proofs.Common.{sym, ◌∙◌}
use Rattle.rollback_stack.specs.Migrated.{IsFileStop}
use Rattle.rollback_stack.proofs.Migrating.{in_one, no_old_file}
use Rattle.change_rel.proofs.cny-base.Faults.{passed_on}
use Rattle.rollback_stack.proofs.migration.old_file.Goals as goal

pub returns-in_err-db-clause-stops : goal.returns-in_err-db-clause-stops
returns-in_err-db-clause-stops c =
    let path = c.args.path in
    let bytes = c.args.bytes.now in
    let e = c.in_err-db.field-0.0 in
    passed_on (IsFileStop path bytes) e c.from_residual.result
    (no_old_file path bytes (sym c.has_magic.ensures ∙ c.if-has_magic.false) e c.in_err-db.ensures.stops) c.from_residual.ensures.1

pub returns-clause-value : goal.returns-clause-value
returns-clause-value c =
    let other = sym c.has_magic.ensures ∙ c.if-has_magic.false in
    (other, in_one c.in_ok-db.db c.args.bytes.now other c.in_ok-db.ensures.value)
