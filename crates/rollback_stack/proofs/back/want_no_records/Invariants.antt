use Rattle.rollback_stack.specs.Wanting.{HasNoRecords}
use Rattle.rollback_stack.proofs.back.want_no_records.Given as goal

abbrev pub invariant-loop-below : goal.invariant-loop-below
invariant-loop-below l = HasNoRecords l.below l.newest l.fn.wants l.wants
