use Rattle.std.proofs.Common.{◌≡◌, false, All}
use Rattle.job_targets.specs.declared.entry.Entry.{Entry}
use Rattle.job_targets.specs.Old.{is_staged}
use Rattle.rollback_stack.specs.Entries as spec
use Rattle.root_lines.proofs.newest_job.entries_of.Given as goal

abbrev pub invariant-loop-change : goal.invariant-loop-change
invariant-loop-change l = record {
  same : spec.entries_of l.entries.items ≡ l.yielded;
  given : All (λ (e : Entry). is_staged e.was ≡ false) l.entries.items;
}
