use Rattle.std.proofs.Common.{take}
use Rattle.job_targets.specs.Agree.{AllAgree, AreNoted}
use Rattle.job_targets.proofs.agreeing.stashable.Given as goal

abbrev pub invariant-loop-entry : goal.invariant-loop-entry
invariant-loop-entry l = AreNoted (take l.entry-index l.entries) l.noted × AllAgree (take l.entry-index l.entries)
