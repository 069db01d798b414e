use Rattle.std.proofs.Common.{Err, ap}
use Rattle.repo_index.specs.cny-base.declared.text.TextFault.TheVariants.{Bad}
use Rattle.trove_spec.proofs.ConfigLines.{same_fault}
use Rattle.sys_model.proofs.Directives.{no_update, one_update}
use Rattle.sys_model.proofs.directive.read_update.Goals as goal

pub returns-in-Ok-clause-only : goal.returns-in-Ok-clause-only
returns-in-Ok-clause-only c = λ said is. one_update c.args.bytes.now c.in-Ok.field-0.spec c.in-Ok.field-0.text said c.in-Ok.ensures.only is

pub returns-in-Err-clause-bad : goal.returns-in-Err-clause-bad
returns-in-Err-clause-bad c = λ h said is. no_update c.args.bytes.now said (c.in-Err.ensures.bad (ap Err (same_fault c.in-Err.fault Bad h))) is
