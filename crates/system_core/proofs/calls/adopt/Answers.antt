use Rattle.std.proofs.Common.{[], sym, subst}
use Rattle.rollback_stack.specs.cny-base.Count.{Rose}
use Rattle.system_core.specs.Job.{sources_of}
use Rattle.system_core.specs.Lists.{to_list}
use Rattle.system_core.specs.Steps.{StepEnds}
use Rattle.system_core.proofs.AnswerLaws.{answer_stop}
use Rattle.system_core.proofs.JobLaws.{cause_of}
use Rattle.system_core.proofs.EndingAll.{err_is}
use Rattle.std.proofs.lemmas.List.Elements.{All-nil}
use Rattle.update_job.proofs.change-set.Carrying.{no_carried}
use Rattle.system_core.proofs.calls.adopt.Goals as goal

pub returns-in_err-done-clause-ends : goal.returns-in_err-done-clause-ends
returns-in_err-done-clause-ends g c tells s stores =
    subst (StepEnds g.T.TreeDisk.disk _ (to_list c.args.list) s c.args.root.now c.job.new.root c.job.new.db) (sym (err_is c.from_residual.result c.in_err-done.field-0.0 c.from_residual.ensures.1)) (c.in_err-done.ensures.ends tells s stores)

pub returns-in_err-done-clause-causes : goal.returns-in_err-done-clause-causes
returns-in_err-done-clause-causes g c = cause_of g.C.Contents.contents c.args.far.now c.job.new.far (Rose (g.T.TreeDisk.disk.faults c.args.root.now) (g.T.TreeDisk.disk.faults c.job.new.root)) c.in_err-done.field-0.0 c.from_residual.result c.from_residual.ensures.1 c.in_err-done.ensures.causes

pub job-requires-clause-sound : goal.job-requires-clause-sound
job-requires-clause-sound g c = record { hash = All-nil _; rising = no_carried }

pub returns-in_err-done-clause-answers : goal.returns-in_err-done-clause-answers
returns-in_err-done-clause-answers g c =
    answer_stop g.T.TreeDisk.disk (sources_of [] (g.C.Contents.contents.answers c.args.far.now) c.args.options.now) (to_list c.args.list) c.args.db.now c.args.root.now c.job.new.root c.job.new.db c.in_err-done.field-0.0 c.from_residual.result c.from_residual.ensures.1 c.in_err-done.ensures.answers
