use Rattle.std.proofs.Common.{◌≡◌, map, All}
use Rattle.rollback_stack.specs.JobEntries.{IsChange}
use Rattle.rollback_stack.specs.Halves.{half_of}
use Rattle.rollback_stack.proofs.job_marks.marks_before.Given as goal

abbrev pub invariant-loop-half : goal.invariant-loop-half
invariant-loop-half l = record {
  read : l.yielded ≡ map (half_of l.list.troves) l.changes.items;
  changes : All IsChange l.changes.items;
}
