use Rattle.std.proofs.Common.{arith}
use Rattle.cny_batch.specs.Manifests.{each_from, refs_of_hundred, all_refs}
use Rattle.cny_batch.proofs.Each.{all_written, goes_on}
use Rattle.cny_batch.proofs.group.push_refs.Goals as goal

pub loop-number-preserved : goal.loop-number-preserved
loop-number-preserved c = goes_on (refs_of_hundred c.args.packages c.args.round) 10 c.args.out.now (each_from (refs_of_hundred c.args.packages c.args.round) 1 9) c.loop-number.out c.push_hundred.new.out c.loop-number.number (omega arith) c.loop-number.invariant c.in_ok-push_hundred.ensures

pub returns : goal.returns
unfolding all_refs
returns c = all_written (refs_of_hundred c.args.packages c.args.round) 10 c.args.out.now (each_from (refs_of_hundred c.args.packages c.args.round) 1 9) c.loop-number.out c.loop-number.number (omega arith) c.loop-number.invariant
