use Rattle.trove_stream.specs.Trove.{IsTrove}
use Rattle.local_db.proofs.Written.{all_written, one_written}
use Rattle.local_db.proofs.writing.put_troves.Goals as goal

pub loop-trove-preserved : goal.loop-trove-preserved
loop-trove-preserved c =
    one_written c.args.out.now c.args.troves.now c.loop-trove.trove-index c.trove-item.result c.loop-trove.out c.put_trove.new.out c.loop-trove-test.true c.trove-item.is c.loop-trove.invariant
    c.in_ok-put_trove.ensures.trove c.in_ok-put_trove.ensures.value

pub returns-clause-troves : goal.returns-clause-troves
returns-clause-troves c = all_written IsTrove c.args.troves.now c.loop-trove.trove-index c.loop-trove-test.false c.loop-trove.invariant.troves_are
