use Rattle.std.proofs.Common.{List, [], Ok, subst}
use Rattle.rollback_stack.specs.cny-base.Stop.{stop_of_fault}
use Rattle.rollback_stack.specs.trove-stream.declared.parts.TroveParts.{TroveParts}
use Rattle.update_job.specs.Lists.{AreInstalled, IsErased, IsUnerased}
use Rattle.rollback_stack.specs.cny-base.Count.{Rose}
use Rattle.system_core.specs.Answers.{only_read}
use Rattle.system_core.specs.Job.{no_answers, sources_of}
use Rattle.system_core.specs.Lists.{to_erased}
use Rattle.system_core.proofs.AnswerLaws.{answer_by, answer_stop_by, list_answer}
use Rattle.system_core.proofs.CallLaws.{ends_by, ends_stop, erased_allowed, list_stop, own_cause, own_cause_of, own_fault_cause}
use Rattle.system_core.proofs.ErasedRefusals.{erasure_stops}
use Rattle.system_core.proofs.Held.{same_list}
use Rattle.system_core.proofs.TreesMoved.{moves_by, nothing_read}
use Rattle.std.proofs.lemmas.List.Elements.{All-nil}
use Rattle.update_job.proofs.change-set.Carrying.{no_carried}
use Rattle.system_core.proofs.calls.erase.Goals as goal

pub returns-in_err-list-clause-ends : goal.returns-in_err-list-clause-ends
returns-in_err-list-clause-ends g c tells s stores =
    let ready = c.requires.ready tells in
    list_stop _ (to_erased s.installed c.args.names.now) s g.met.T.TreeDisk.laws c.args.root.now c.args.db.now c.in_err-list.field-0.0 c.from_residual.result c.from_residual.ensures.1
    (λ why is. subst (IsUnerased s.installed c.args.names.now) is
    (subst (λ (l : List TroveParts). IsUnerased l c.args.names.now c.in_err-list.field-0.0) (same_list c.distinct_databases.ensures.unique (g.T.TreeDisk.disk.reads c.args.root.now) c.args.db.now s ready.holds stores) c.in_err-list.ensures.fault))

pub returns-in_err-list-clause-refusals : goal.returns-in_err-list-clause-refusals
returns-in_err-list-clause-refusals g c tells s stores =
    let ready = c.requires.ready tells in
    erasure_stops g.T.TreeDisk.disk (sources_of [] no_answers c.args.options.now) s stores.system.list c.args.names.now c.args.root.now c.args.root.now c.args.db.now c.from_residual.result
    (list_stop (sources_of [] no_answers c.args.options.now) (to_erased s.installed c.args.names.now) s g.met.T.TreeDisk.laws c.args.root.now c.args.db.now c.in_err-list.field-0.0 c.from_residual.result c.from_residual.ensures.1
    (λ why is. subst (IsUnerased s.installed c.args.names.now) is
    (subst (λ (l : List TroveParts). IsUnerased l c.args.names.now c.in_err-list.field-0.0) (same_list c.distinct_databases.ensures.unique (g.T.TreeDisk.disk.reads c.args.root.now) c.args.db.now s ready.holds stores) c.in_err-list.ensures.fault)))
    (Rose (g.T.TreeDisk.disk.faults c.args.root.now) (g.T.TreeDisk.disk.faults c.args.root.now))
    (own_cause_of (Rose (g.T.TreeDisk.disk.faults c.args.root.now) (g.T.TreeDisk.disk.faults c.args.root.now)) (stop_of_fault c.in_err-list.field-0.0) c.from_residual.result c.from_residual.ensures.1 (own_fault_cause (Rose (g.T.TreeDisk.disk.faults c.args.root.now) (g.T.TreeDisk.disk.faults c.args.root.now)) c.in_err-list.field-0.0))

pub returns-in_err-list-clause-causes : goal.returns-in_err-list-clause-causes
returns-in_err-list-clause-causes g c = own_cause_of (Rose (g.T.TreeDisk.disk.faults c.args.root.now) (g.T.TreeDisk.disk.faults c.args.root.now)) (stop_of_fault c.in_err-list.field-0.0) c.from_residual.result c.from_residual.ensures.1 (own_fault_cause (Rose (g.T.TreeDisk.disk.faults c.args.root.now) (g.T.TreeDisk.disk.faults c.args.root.now)) c.in_err-list.field-0.0)

pub job-requires-clause-allowed : goal.job-requires-clause-allowed
job-requires-clause-allowed g c = erased_allowed c.args.db.now.installed c.args.names.now c.in_ok-list.list c.requires.db.installed.allowed c.in_ok-list.ensures.value

pub returns-in_err-done-clause-ends : goal.returns-in_err-done-clause-ends
returns-in_err-done-clause-ends g c tells s stores =
    let ready = c.requires.ready tells in
    let leads = subst (λ (l : List TroveParts). AreInstalled l c.args.names.now × IsErased l c.args.names.now c.in_ok-list.list) (same_list c.distinct_databases.ensures.unique (g.T.TreeDisk.disk.reads c.args.root.now) c.args.db.now s ready.holds stores) (c.in_ok-list.ensures.all, c.in_ok-list.ensures.value) in
    ends_stop g.T.TreeDisk.disk _ (to_erased s.installed c.args.names.now) s c.args.root.now c.job.new.root c.job.new.db c.in_ok-list.list leads c.in_err-done.field-0.0 c.from_residual-in_err-done.result c.from_residual-in_err-done.ensures.1 (c.in_err-done.ensures.ends tells s stores)

pub returns-in_err-done-clause-refusals : goal.returns-in_err-done-clause-refusals
returns-in_err-done-clause-refusals g c tells s stores =
    let ready = c.requires.ready tells in
    let leads = subst (λ (l : List TroveParts). AreInstalled l c.args.names.now × IsErased l c.args.names.now c.in_ok-list.list) (same_list c.distinct_databases.ensures.unique (g.T.TreeDisk.disk.reads c.args.root.now) c.args.db.now s ready.holds stores) (c.in_ok-list.ensures.all, c.in_ok-list.ensures.value) in
    erasure_stops g.T.TreeDisk.disk (sources_of [] no_answers c.args.options.now) s stores.system.list c.args.names.now c.args.root.now c.job.new.root c.job.new.db c.from_residual-in_err-done.result
    (ends_stop g.T.TreeDisk.disk _ (to_erased s.installed c.args.names.now) s c.args.root.now c.job.new.root c.job.new.db c.in_ok-list.list leads c.in_err-done.field-0.0 c.from_residual-in_err-done.result c.from_residual-in_err-done.ensures.1 (c.in_err-done.ensures.ends tells s stores))
    (Rose (g.T.TreeDisk.disk.faults c.args.root.now) (g.T.TreeDisk.disk.faults c.job.new.root))
    (own_cause_of (Rose (g.T.TreeDisk.disk.faults c.args.root.now) (g.T.TreeDisk.disk.faults c.job.new.root)) c.in_err-done.field-0.0 c.from_residual-in_err-done.result c.from_residual-in_err-done.ensures.1 (own_cause _ _ (Rose (g.T.TreeDisk.disk.faults c.args.root.now) (g.T.TreeDisk.disk.faults c.job.new.root)) c.in_err-done.field-0.0 c.in_err-done.ensures.causes))

pub returns-in_err-done-clause-causes : goal.returns-in_err-done-clause-causes
returns-in_err-done-clause-causes g c =
    own_cause_of (Rose (g.T.TreeDisk.disk.faults c.args.root.now) (g.T.TreeDisk.disk.faults c.job.new.root)) c.in_err-done.field-0.0 c.from_residual-in_err-done.result c.from_residual-in_err-done.ensures.1 (own_cause _ _ (Rose (g.T.TreeDisk.disk.faults c.args.root.now) (g.T.TreeDisk.disk.faults c.job.new.root)) c.in_err-done.field-0.0 c.in_err-done.ensures.causes)

pub returns-clause-ends : goal.returns-clause-ends
returns-clause-ends g c tells s stores =
    let ready = c.requires.ready tells in
    let leads = subst (λ (l : List TroveParts). AreInstalled l c.args.names.now × IsErased l c.args.names.now c.in_ok-list.list) (same_list c.distinct_databases.ensures.unique (g.T.TreeDisk.disk.reads c.args.root.now) c.args.db.now s ready.holds stores) (c.in_ok-list.ensures.all, c.in_ok-list.ensures.value) in
    ends_by g.T.TreeDisk.disk _ (to_erased s.installed c.args.names.now) s c.args.root.now c.job.new.root c.job.new.db c.in_ok-list.list leads (Ok c.in_ok-done.done) (c.in_ok-done.ensures.ends tells s stores)

pub job-requires-clause-sound : goal.job-requires-clause-sound
job-requires-clause-sound g c = record { hash = All-nil _; rising = no_carried }

pub returns-in_err-list-clause-answers : goal.returns-in_err-list-clause-answers
returns-in_err-list-clause-answers g c =
    list_answer g.T.TreeDisk.disk (sources_of [] no_answers c.args.options.now) (to_erased c.args.db.now.installed c.args.names.now) c.args.db.now c.args.root.now c.args.db.now c.in_err-list.field-0.0 c.from_residual.result c.from_residual.ensures.1 (λ why is. subst (IsUnerased c.args.db.now.installed c.args.names.now) is c.in_err-list.ensures.fault)

pub returns-in_err-done-clause-answers : goal.returns-in_err-done-clause-answers
returns-in_err-done-clause-answers g c =
    answer_stop_by g.T.TreeDisk.disk (sources_of [] no_answers c.args.options.now) (to_erased c.args.db.now.installed c.args.names.now) c.args.db.now c.args.root.now c.job.new.root c.job.new.db c.in_ok-list.list (c.in_ok-list.ensures.all, c.in_ok-list.ensures.value) c.in_err-done.field-0.0 c.from_residual-in_err-done.result c.from_residual-in_err-done.ensures.1 c.in_err-done.ensures.answers

pub returns-clause-answers : goal.returns-clause-answers
returns-clause-answers g c =
    answer_by g.T.TreeDisk.disk (sources_of [] no_answers c.args.options.now) (to_erased c.args.db.now.installed c.args.names.now) c.args.db.now c.args.root.now c.job.new.root c.job.new.db c.in_ok-list.list (c.in_ok-list.ensures.all, c.in_ok-list.ensures.value) (Ok c.in_ok-done.done) c.in_ok-done.ensures.answers

pub returns-in_err-list-clause-moments : goal.returns-in_err-list-clause-moments
returns-in_err-list-clause-moments g c tells = only_read (nothing_read g.met.T.TreeDisk.laws c.args.root.now)

pub returns-in_err-done-clause-moments : goal.returns-in_err-done-clause-moments
returns-in_err-done-clause-moments g c tells =
    moves_by g.met.T.TreeDisk.laws (sources_of [] no_answers c.args.options.now) (to_erased c.args.db.now.installed c.args.names.now) c.args.db.now c.args.root.now c.in_ok-list.list (c.in_ok-list.ensures.all, c.in_ok-list.ensures.value) c.job.new.root (c.in_err-done.ensures.moments tells)

pub returns-clause-moments : goal.returns-clause-moments
returns-clause-moments g c tells =
    moves_by g.met.T.TreeDisk.laws (sources_of [] no_answers c.args.options.now) (to_erased c.args.db.now.installed c.args.names.now) c.args.db.now c.args.root.now c.in_ok-list.list (c.in_ok-list.ensures.all, c.in_ok-list.ensures.value) c.job.new.root (c.in_ok-done.ensures.moments tells)
