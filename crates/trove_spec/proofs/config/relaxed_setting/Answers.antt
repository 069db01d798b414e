use Rattle.repo_index.specs.cny-base.declared.text.TextFault.TheVariants.{Bad}
use Rattle.trove_spec.proofs.ConfigLines.{same_fault, flavor_bad}
use Rattle.trove_spec.proofs.OneConfig.{one_flavor}
use Rattle.trove_spec.proofs.config.relaxed_setting.Goals as goal

pub returns-in-Err-clause-bad : goal.returns-in-Err-clause-bad
returns-in-Err-clause-bad c h setting is = flavor_bad c.args.text.now c.in-Err.fault setting (same_fault c.in-Err.fault Bad h) c.in-Err.ensures.only is

pub returns-in-Ok-clause-only : goal.returns-in-Ok-clause-only
returns-in-Ok-clause-only c = λ setting is. one_flavor c.args.text.now c.in-Ok.flavor setting c.in-Ok.ensures.only is
