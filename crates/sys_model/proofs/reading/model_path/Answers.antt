use Rattle.std.proofs.Common.{Err, ap}
use Rattle.sys_model.proofs.ModelPath.{path_text}
use Rattle.sys_model.proofs.reading.model_path.Goals as goal

pub unreachable-requires : goal.unreachable-requires
unreachable-requires c = absurd (cc (c.in-Err-Bad.ensures.bad.0 (ap Err c.in-Err-Bad.field-0-is), path_text))
