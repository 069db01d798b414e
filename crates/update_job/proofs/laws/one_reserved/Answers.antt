use Rattle.update_job.proofs.Reserved.{one_reserved, reserved_apart}
use Rattle.update_job.proofs.laws.one_reserved.Goals as goal

pub returns-clause-one : goal.returns-clause-one
returns-clause-one c = one_reserved

pub returns-clause-apart : goal.returns-clause-apart
returns-clause-apart c = reserved_apart
