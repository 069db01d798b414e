use Rattle.std.proofs.Common.{sym, ◌∙◌}
use Rattle.content_store.proofs.Differences.{same_lists}
use Rattle.job_targets.proofs.agreeing.check_same.Goals as goal

pub returns-in-None-clause-same : goal.returns-in-None-clause-same
returns-in-None-clause-same c = same_lists c.args.earlier.now c.args.bytes.now (sym c.difference.ensures.value ∙ c.in-None.is)
