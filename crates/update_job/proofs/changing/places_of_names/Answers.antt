use Rattle.std.proofs.Common.{arith}
use Rattle.update_job.proofs.Lists.{names_more}
use Rattle.update_job.proofs.changing.places_of_names.Goals as goal

pub loop-name-preserved : goal.loop-name-preserved
loop-name-preserved c =
    names_more c.args.installed.now c.args.names.now c.loop-name.name-index c.name-item.result c.loop-name.places c.insert.new.self c.in-Some.place (omega arith) c.name-item.is c.loop-name.invariant
    c.in-Some.ensures.some c.in-Some.ensures.only c.in_ok-insert.ensures.keys
