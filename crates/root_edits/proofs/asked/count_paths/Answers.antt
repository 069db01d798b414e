use Rattle.std.proofs.Common.{arith, ◌^◌, ◌-◌}
use Rattle.root_edits.proofs.Listed.{count_end}
use Rattle.root_edits.proofs.asked.count_paths.Goals as goal

pub returns : goal.returns
returns c = count_end c.args.names.now c.loop-rest.rest.now c.loop-rest.count (2 ^ 64 - 1) _ (omega arith) c.loop-rest.invariant.fits c.loop-rest.invariant.so_far
