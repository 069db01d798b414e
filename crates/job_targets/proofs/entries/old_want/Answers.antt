use Rattle.std.proofs.Common.{arith}
use Rattle.job_targets.proofs.Standing.{old_file}
use Rattle.job_targets.proofs.entries.old_want.Goals as goal

pub returns-in_ok-bytes-in-File-clause-formed : goal.returns-in_ok-bytes-in-File-clause-formed
returns-in_ok-bytes-in-File-clause-formed g c = old_file c.in-File.mode c.in_ok-bytes-in-File.bytes (omega arith) c.in_ok-bytes-in-File.ensures.small
