use Rattle.std.proofs.Common.{arith}
use Rattle.repository.proofs.Told.{parts_more}
use Rattle.repository.proofs.between_parts.parts_between.Goals as goal

pub loop-trove-preserved : goal.loop-trove-preserved
loop-trove-preserved c = record {
  told = parts_more c.args.old.now c.args.fresh.now c.loop-trove.trove-index c.trove-item.result c.loop-trove.parts.items c.push_part.new.parts.items (omega arith) c.trove-item.is c.loop-trove.invariant.told c.in_ok-push_part.ensures.pushed;
  valid = c.in_ok-push_part.ensures.valid c.loop-trove.invariant.valid;
}
