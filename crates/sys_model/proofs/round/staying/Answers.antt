use Rattle.sys_model.proofs.Unerased.{not_unerased}
use Rattle.sys_model.proofs.round.staying.Goals as goal

pub unreachable-requires : goal.unreachable-requires
unreachable-requires c = not_unerased c.args.installed.now c.args.replaced.now c.requires c.in-Err-Refused.field-0 c.in-Err-Refused.field-0-is c.in-Err-Refused.ensures.fault
