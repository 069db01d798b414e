use Rattle.change_set.proofs.Written.{part_room, parts_fit, one_part}
use Rattle.change_set.proofs.writing.put_parts.Goals as goal

pub put_part-requires : goal.put_part-requires
put_part-requires c = part_room c.args.parts.now c.loop-part.part-index c.part-item.result c.requires c.loop-part-test.true c.part-item.is

pub loop-part-preserved : goal.loop-part-preserved
loop-part-preserved c =
    one_part c.args.out.now c.args.parts.now c.loop-part.part-index c.part-item.result c.loop-part.out c.put_part.new.out c.loop-part-test.true c.part-item.is c.loop-part.invariant c.in_ok-put_part.ensures.part c.in_ok-put_part.ensures.value

pub returns-clause-fits : goal.returns-clause-fits
returns-clause-fits c = parts_fit c.args.parts.now c.requires
