use Rattle.job_targets.proofs.GatherLaws.{gathers_far}
use Rattle.job_targets.proofs.content.content_elsewhere.Goals as goal

pub returns-in_err-found-clause-gathers : goal.returns-in_err-found-clause-gathers
returns-in_err-found-clause-gathers g c =
    gathers_far g.met.T.TreeDisk.laws c.args.name.now c.in_err-found.field-0.0 c.in_err-found.ensures.keeps c.in_err-found.ensures.stops c.from_residual.ensures.1
