use Rattle.std.proofs.Common.{◌≤◌, subst}
use Rattle.local_db.specs.declared.format.Format.TheVariants.{Two}
use Rattle.rollback_stack.proofs.Mapping.{all_so}
use Rattle.system_core.proofs.JobNumbers.{full_last, large_last}
use Rattle.system_core.proofs.last.database_of.Goals as goal

pub returns-in_err-bytes-clause-refused : goal.returns-in_err-bytes-clause-refused
returns-in_err-bytes-clause-refused c =
    large_last c.args.db.now.newest c.args.after.now.installed _ _ c.from_residual.result
    (c.distinct_databases.ensures.length Two c.args.after.now.installed c.args.after.now.oldest c.args.after.now.newest) c.from_residual.ensures.1 c.in_err-bytes.ensures.refused

pub returns-in_err-next_number-clause-refused : goal.returns-in_err-next_number-clause-refused
returns-in_err-next_number-clause-refused c =
    full_last c.args.db.now.newest c.args.after.now.installed _ _ c.from_residual-in_err-next_number.result
    (c.distinct_databases.ensures.length Two c.args.after.now.installed c.args.after.now.oldest c.args.after.now.newest) c.in_ok-bytes.ensures.short
    c.from_residual-in_err-next_number.ensures.1 c.in_err-next_number.ensures.full

pub returns-clause-fits : goal.returns-clause-fits
returns-clause-fits c = record {
  told = all_so c.args.after.now.installed;
  short = subst (λ n. n ≤ 536870912) (c.distinct_databases.ensures.length Two c.args.after.now.installed c.args.after.now.oldest c.args.after.now.newest) c.in_ok-bytes.ensures.short;
}
