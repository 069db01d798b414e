use Rattle.cny_version.proofs.NextCounts.{one_pushed}
use Rattle.cny_version.proofs.next.raised.Goals as goal

pub loop-place-preserved : goal.loop-place-preserved
loop-place-preserved c =
    one_pushed c.args.depth c.args.numbers.now c.loop-place.place c.number_at.result c.loop-place.items.items _ c.loop-place-test.true c.loop-place.invariant c.number_at.ensures
    c.in_ok-push.ensures.items
