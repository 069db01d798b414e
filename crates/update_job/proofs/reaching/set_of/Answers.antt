use Rattle.std.proofs.Common.{arith}
use Rattle.update_job.proofs.Elements.{same_more}
use Rattle.update_job.proofs.reaching.set_of.Goals as goal

pub loop-place-preserved : goal.loop-place-preserved
loop-place-preserved c =
    same_more c.args.places.now c.loop-place.place-index c.loop-place.set c.insert.new.self (omega arith) c.loop-place.invariant c.in_ok-insert.ensures.keys
