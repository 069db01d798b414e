use Rattle.std.proofs.Common.{List, subst, arith}
use Rattle.std.proofs.lemmas.List.{take_all}
use Rattle.rollback_stack.specs.declared.undo.NotedJob.{NotedJob}
use Rattle.root_commands.specs.Noting.{AreJobsNoted}
use Rattle.root_commands.proofs.Turning.{noted_next}
use Rattle.root_commands.proofs.noting.noted_jobs.Goals as goal

pub loop-job-preserved : goal.loop-job-preserved
loop-job-preserved c =
    noted_next c.args.jobs.now c.loop-job.job-index c.job-item.result c.loop-job.notes.items c.push.new.self.items c.in_ok-note.note (omega arith) c.job-item.is c.loop-job.invariant c.in_ok-note.ensures c.in_ok-push.ensures.items

pub returns : goal.returns
returns c = subst (λ (l : List NotedJob). AreJobsNoted l c.loop-job.notes.items) (take_all c.loop-job.job-index c.args.jobs.now (omega arith)) c.loop-job.invariant
