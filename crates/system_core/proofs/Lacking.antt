-- Entries at whose path something stands before or after the job.
use Rattle.std.proofs.Common.{◌≡◌, true, ap}
use Rattle.rollback_stack.specs.journal-log.declared.put.Want.{Want}
use Rattle.rollback_stack.specs.journal-log.declared.put.Want.TheVariants as want
use Rattle.rollback_stack.specs.journal-log.Targets.{node_of}
use Rattle.job_targets.specs.declared.entry.Entry.{Entry}
use Rattle.rollback_stack.specs.tree-scan.declared.mark.Mark.{Mark}
use Rattle.rollback_stack.specs.tree-scan.declared.mark.Mark.TheVariants as mark
use Rattle.rollback_stack.specs.tree-scan.Marks.{fingerprint, is_nothing}
use Rattle.rollback_stack.specs.Entries.{entry_of}
use Rattle.system_core.specs.JobWriting.{StandsBeforeOrAfter}
use Rattle.system_core.specs.Something.{is_some_by, is_something}

abbrev pub IsSomeEntry : Entry → Type 0
IsSomeEntry e = StandsBeforeOrAfter (entry_of e)

by_want : (w : Want) (m : Mark) → is_some_by w m ≡ true → fingerprint (node_of w) ≡ mark.Nothing → m ≡ mark.Nothing → ⊥
by_want want.Nothing m is was now = absurd (cc (is, ap is_nothing now))
by_want (want.Dir mode) m is was now = absurd (cc was)
by_want (want.File mode bytes) m is was now = absurd (cc was)
by_want (want.Link target) m is was now = absurd (cc was)
by_want (want.Staged mode number size name) m is was now = absurd (cc was)

pub something_of : (e : Entry) → is_something e ≡ true → IsSomeEntry e
something_of e is none = by_want e.was e.mark is none.0 none.1
