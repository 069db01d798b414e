use Rattle.past_jobs.proofs.Added.{answers}
use Rattle.past_jobs.proofs.table.recorded_in.Goals as goal

pub returns : goal.returns
returns c =
    answers c.args.format c.args.table.now.troves c.args.table.now.marks c.args.table.now.len c.requires c.args.path.now c.first_of.result
    c.first_of.ensures.some c.first_of.ensures.none
