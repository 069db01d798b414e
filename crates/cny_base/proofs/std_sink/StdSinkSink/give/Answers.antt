use Rattle.std.proofs.Common.{◌++◌, take}
use Rattle.cny_base.proofs.FlowParts.{appends_more, part_appended, part_moves}
use Rattle.cny_base.proofs.std_sink.StdSinkSink.give.Goals as goal

pub loop-rest-preserved : goal.loop-rest-preserved
loop-rest-preserved g c = record {
  front = c.loop-rest.invariant.front ++ take c.write_part-count.result c.loop-rest.rest.now;
  split = part_moves c.loop-rest.invariant.front c.loop-rest.rest.now c.args.bytes.now c.write_part-count.result c.loop-rest.invariant.split;
  given = appends_more _ _ _ _ _ c.loop-rest.invariant.given c.write_part-count.ensures.written;
  same = c.loop-rest.invariant.same;
}

pub returns-then-count-eq0-clause-given : goal.returns-then-count-eq0-clause-given
returns-then-count-eq0-clause-given g c =
    part_appended _ _ _ _ _ _ c.loop-rest.invariant.split c.loop-rest.invariant.given (rw c.if-count-eq0.true at c.write_part-count.ensures.written)
