use Rattle.std.proofs.Common.{length, ap, arith}
use Rattle.change_set.proofs.Written.{contents_length}
use Rattle.change_set.proofs.writing.contents_size.Goals as goal

pub loop-content-preserved : goal.loop-content-preserved
loop-content-preserved c =
    contents_length c.args.contents.now c.loop-content.content-index c.content-item.result c.loop-content.size c.in_ok-size.size c.loop-content-test.true c.content-item.is c.loop-content.invariant
    (omega (arith, ap length c.as_slice.ensures, ap length c.get.ensures, c.in_ok-with_name.ensures, c.in_ok-size.ensures))
