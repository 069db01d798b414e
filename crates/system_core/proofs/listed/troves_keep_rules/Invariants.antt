use Rattle.std.proofs.Common.{take, All}
use Rattle.rollback_stack.specs.trove-stream.Trove.{IsTrove}
use Rattle.system_core.proofs.listed.troves_keep_rules.Given as goal

abbrev pub invariant-loop-trove : goal.invariant-loop-trove
invariant-loop-trove l = All IsTrove (take l.trove-index l.troves)
