use Rattle.std.proofs.Common.{List, Ok, subst}
use Rattle.rollback_stack.specs.cny-base.Stop.{stop_of_fault}
use Rattle.rollback_stack.specs.trove-stream.declared.parts.TroveParts.{TroveParts}
use Rattle.update_job.specs.Lists.{IsUnupdated, IsUpdated}
use Rattle.rollback_stack.specs.cny-base.Count.{Rose}
use Rattle.system_core.specs.Answers.{only_read}
use Rattle.system_core.specs.Job.{sources_of}
use Rattle.system_core.specs.Lists.{to_updated}
use Rattle.system_core.proofs.AnswerLaws.{answer_by, answer_stop_by, list_answer}
use Rattle.system_core.proofs.CallLaws.{ends_by, ends_stop, fault_cause, list_stop, updated_allowed}
use Rattle.system_core.proofs.Held.{same_list}
use Rattle.system_core.proofs.TreesMoved.{moves_by, nothing_read}
use Rattle.system_core.proofs.JobLaws.{cause_of}
use Rattle.job_targets.proofs.content-store.Sources.{keeps_start}
use Rattle.system_core.proofs.calls.update.Goals as goal

pub returns-in_err-list-clause-ends : goal.returns-in_err-list-clause-ends
returns-in_err-list-clause-ends g c tells s stores =
    list_stop _ (to_updated s.installed c.args.come.now) s g.met.T.TreeDisk.laws c.args.root.now c.args.db.now c.in_err-list.field-0.0 c.from_residual.result c.from_residual.ensures.1 (λ why is. subst (IsUnupdated c.args.come.now) is c.in_err-list.ensures.fault)

pub returns-in_err-list-clause-causes : goal.returns-in_err-list-clause-causes
returns-in_err-list-clause-causes g c = cause_of g.C.Contents.contents c.args.far.now c.args.far.now (Rose (g.T.TreeDisk.disk.faults c.args.root.now) (g.T.TreeDisk.disk.faults c.args.root.now)) (stop_of_fault c.in_err-list.field-0.0) c.from_residual.result c.from_residual.ensures.1 (fault_cause g.C.Contents.contents c.args.far.now c.args.far.now (Rose (g.T.TreeDisk.disk.faults c.args.root.now) (g.T.TreeDisk.disk.faults c.args.root.now)) c.in_err-list.field-0.0)

pub returns-in_err-list-clause-searches : goal.returns-in_err-list-clause-searches
returns-in_err-list-clause-searches g c = keeps_start g.met.C.Contents.laws c.args.far.now

pub job-requires-clause-sound : goal.job-requires-clause-sound
job-requires-clause-sound g c = record { hash = c.requires.hash; rising = c.requires.rising }

pub job-requires-clause-allowed : goal.job-requires-clause-allowed
job-requires-clause-allowed g c = updated_allowed c.args.db.now.installed c.args.come.now c.in_ok-list.list c.requires.db.installed.allowed c.requires.allowed c.in_ok-list.ensures.value

pub returns-in_err-done-clause-ends : goal.returns-in_err-done-clause-ends
returns-in_err-done-clause-ends g c tells s stores =
    let ready = c.requires.ready tells in
    let leads = subst (λ (l : List TroveParts). IsUpdated l c.args.come.now c.in_ok-list.list) (same_list c.distinct_databases.ensures.unique (g.T.TreeDisk.disk.reads c.args.root.now) c.args.db.now s ready.holds stores) c.in_ok-list.ensures.value in
    ends_stop g.T.TreeDisk.disk _ (to_updated s.installed c.args.come.now) s c.args.root.now c.job.new.root c.job.new.db c.in_ok-list.list leads c.in_err-done.field-0.0 c.from_residual-in_err-done.result c.from_residual-in_err-done.ensures.1 (c.in_err-done.ensures.ends tells s stores)

pub returns-in_err-done-clause-causes : goal.returns-in_err-done-clause-causes
returns-in_err-done-clause-causes g c = cause_of g.C.Contents.contents c.args.far.now c.job.new.far (Rose (g.T.TreeDisk.disk.faults c.args.root.now) (g.T.TreeDisk.disk.faults c.job.new.root)) c.in_err-done.field-0.0 c.from_residual-in_err-done.result c.from_residual-in_err-done.ensures.1 c.in_err-done.ensures.causes

pub returns-clause-ends : goal.returns-clause-ends
returns-clause-ends g c tells s stores =
    let ready = c.requires.ready tells in
    let leads = subst (λ (l : List TroveParts). IsUpdated l c.args.come.now c.in_ok-list.list) (same_list c.distinct_databases.ensures.unique (g.T.TreeDisk.disk.reads c.args.root.now) c.args.db.now s ready.holds stores) c.in_ok-list.ensures.value in
    ends_by g.T.TreeDisk.disk _ (to_updated s.installed c.args.come.now) s c.args.root.now c.job.new.root c.job.new.db c.in_ok-list.list leads (Ok c.in_ok-done.done) (c.in_ok-done.ensures.ends tells s stores)

pub returns-in_err-list-clause-answers : goal.returns-in_err-list-clause-answers
returns-in_err-list-clause-answers g c =
    list_answer g.T.TreeDisk.disk (sources_of c.args.carried.now (g.C.Contents.contents.answers c.args.far.now) c.args.options.now) (to_updated c.args.db.now.installed c.args.come.now) c.args.db.now c.args.root.now c.args.db.now c.in_err-list.field-0.0 c.from_residual.result c.from_residual.ensures.1 (λ why is. subst (IsUnupdated c.args.come.now) is c.in_err-list.ensures.fault)

pub returns-in_err-done-clause-answers : goal.returns-in_err-done-clause-answers
returns-in_err-done-clause-answers g c =
    answer_stop_by g.T.TreeDisk.disk (sources_of c.args.carried.now (g.C.Contents.contents.answers c.args.far.now) c.args.options.now) (to_updated c.args.db.now.installed c.args.come.now) c.args.db.now c.args.root.now c.job.new.root c.job.new.db c.in_ok-list.list c.in_ok-list.ensures.value c.in_err-done.field-0.0 c.from_residual-in_err-done.result c.from_residual-in_err-done.ensures.1 c.in_err-done.ensures.answers

pub returns-clause-answers : goal.returns-clause-answers
returns-clause-answers g c =
    answer_by g.T.TreeDisk.disk (sources_of c.args.carried.now (g.C.Contents.contents.answers c.args.far.now) c.args.options.now) (to_updated c.args.db.now.installed c.args.come.now) c.args.db.now c.args.root.now c.job.new.root c.job.new.db c.in_ok-list.list c.in_ok-list.ensures.value (Ok c.in_ok-done.done) c.in_ok-done.ensures.answers

pub returns-in_err-list-clause-moments : goal.returns-in_err-list-clause-moments
returns-in_err-list-clause-moments g c tells = only_read (nothing_read g.met.T.TreeDisk.laws c.args.root.now)

pub returns-in_err-done-clause-moments : goal.returns-in_err-done-clause-moments
returns-in_err-done-clause-moments g c tells =
    moves_by g.met.T.TreeDisk.laws (sources_of c.args.carried.now (g.C.Contents.contents.answers c.args.far.now) c.args.options.now) (to_updated c.args.db.now.installed c.args.come.now) c.args.db.now c.args.root.now c.in_ok-list.list c.in_ok-list.ensures.value c.job.new.root (c.in_err-done.ensures.moments tells)

pub returns-clause-moments : goal.returns-clause-moments
returns-clause-moments g c tells =
    moves_by g.met.T.TreeDisk.laws (sources_of c.args.carried.now (g.C.Contents.contents.answers c.args.far.now) c.args.options.now) (to_updated c.args.db.now.installed c.args.come.now) c.args.db.now c.args.root.now c.in_ok-list.list c.in_ok-list.ensures.value c.job.new.root (c.in_ok-done.ensures.moments tells)
