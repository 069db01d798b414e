use Rattle.rollback_stack.proofs.Mapped.{none_cleared, one_cleared}
use Rattle.rollback_stack.proofs.back.want_no_records.Goals as goal

pub loop-below-init : goal.loop-below-init
loop-below-init c = none_cleared c.args.newest c.args.wants.now

pub loop-below-preserved : goal.loop-below-preserved
loop-below-preserved c = one_cleared c.loop-below.below c.args.newest c.args.wants.now c.loop-below.wants c.want_no_record.new.wants c.loop-below.invariant c.in_ok-want_no_record.ensures
