use Rattle.std.proofs.Common.{◌≡◌, drop}
use Rattle.conflict_plan.specs.Orphans.{first_remaining}
use Rattle.conflict_plan.proofs.orphans.first_remaining.Given as goal

abbrev pub invariant-loop-last : goal.invariant-loop-last
invariant-loop-last l = first_remaining l.plan l.path l.names ≡ first_remaining l.plan l.path (drop l.last-index l.names)
