use Rattle.std.proofs.Common.{take}
use Rattle.root_commands.specs.Noting.{AreJobsNoted}
use Rattle.root_commands.proofs.noting.noted_jobs.Given as goal

abbrev pub invariant-loop-job : goal.invariant-loop-job
invariant-loop-job l = AreJobsNoted (take l.job-index l.jobs) l.notes.items
