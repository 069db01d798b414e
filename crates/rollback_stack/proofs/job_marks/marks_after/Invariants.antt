use Rattle.std.proofs.Common.{◌≡◌, map}
use Rattle.rollback_stack.specs.Halves.{half_told}
use Rattle.rollback_stack.proofs.job_marks.marks_after.Given as goal

abbrev pub invariant-loop-entry : goal.invariant-loop-entry
invariant-loop-entry l = l.yielded ≡ map (half_told l.list.troves) l.read.items
