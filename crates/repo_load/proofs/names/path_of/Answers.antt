use Rattle.std.proofs.Common.{ap, Err}
use Rattle.repo_load.proofs.names.path_of.Goals as goal

pub unreachable-requires : goal.unreachable-requires
unreachable-requires c = absurd (cc (c.requires, c.in-Err-Bad.ensures.bad.0 (ap Err c.in-Err-Bad.field-0-is)))
