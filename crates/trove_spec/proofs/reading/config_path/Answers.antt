use Rattle.std.proofs.Common.{Err, ap}
use Rattle.trove_spec.proofs.PathText.{path_text}
use Rattle.trove_spec.proofs.reading.config_path.Goals as goal

pub unreachable-requires : goal.unreachable-requires
unreachable-requires c = absurd (cc (c.in-Err-Bad.ensures.bad.0 (ap Err c.in-Err-Bad.field-0-is), path_text))
