use Rattle.std.proofs.Common.{List, [], ◌∷◌, ◌++◌, sym, subst}
use Rattle.std.specs.List.Sorted.{IsStrictlySortedBy}
use Rattle.job_targets.specs.cny-base.Count.{Rose}
use Rattle.local_db.specs.Record as state
use Rattle.job_targets.proofs.tree-disk.Moments.{rose_before}
use Rattle.job_targets.specs.tree-disk.Tree.{Tree}
use Rattle.past_jobs.specs.Jobs.{AreFound}
use Rattle.past_jobs.specs.Outcome.{CanUndoNext}
use Rattle.rollback_stack.specs.Taking.{IsTakeStop}
use Rattle.rollback_stack.proofs.Later.{read_as, read_then}
use Rattle.change_rel.proofs.cny-base.Faults.{passed_on}
use Rattle.rollback_stack.proofs.TakenBack.{take_read, take_refused}
use Rattle.rollback_stack.proofs.jobs.take_job.Goals as goal

pub check_undo-requires : goal.check_undo-requires
check_undo-requires g c = subst (IsStrictlySortedBy state.entry_cmp) (sym c.as_slice-own.ensures.value) c.in_ok-job.ensures.job.rising

pub returns-in_err-job-clause-stops : goal.returns-in_err-job-clause-stops
returns-in_err-job-clause-stops g c =
    let told = g.D.TreeDisk.disk.tells in
    let x = g.D.TreeDisk.disk.reads c.args.disk.now in
    let rose = Rose (g.D.TreeDisk.disk.faults c.args.disk.now) (g.D.TreeDisk.disk.faults c.read_job.new.disk) in
    let e = c.in_err-job.field-0.0 in
    passed_on (IsTakeStop told x c.args.number c.args.back.now.list.troves c.args.back.now.found rose) e c.from_residual.result
    (take_read told x c.args.number c.args.back.now.list.troves c.args.back.now.found rose rose e (λ r. r) c.in_err-job.ensures.stops) c.from_residual.ensures.1

pub returns-in_err-check_undo-clause-stops : goal.returns-in_err-check_undo-clause-stops
returns-in_err-check_undo-clause-stops g c =
    let told = g.D.TreeDisk.disk.tells in
    let faults = g.D.TreeDisk.disk.faults in
    let x = g.D.TreeDisk.disk.reads c.args.disk.now in
    let y = g.D.TreeDisk.disk.reads c.read_job.new.disk in
    let rose = Rose (faults c.read_job.new.disk) (faults c.check_undo.new.disk) in
    let later = Rose (faults c.args.disk.now) (faults c.check_undo.new.disk) in
    let e = c.in_err-check_undo.field-0.0 in
    let after = c.args.back.now.list.troves in
    let before = c.read_job.new.list.troves in
    let es = c.in_ok-job.job.changes.items in
    passed_on (IsTakeStop told x c.args.number after c.args.back.now.found later) e c.from_residual-in_err-check_undo.result
    (take_refused told x y c.args.number after before es c.as_slice-own.result.now c.args.back.now.found rose later e
    (λ r. rose_before (faults c.args.disk.now) (faults c.read_job.new.disk) (faults c.check_undo.new.disk) c.in_ok-job.ensures.later r)
    (λ tells. (c.in_ok-job.ensures.value tells).answer) c.as_slice-own.ensures.value (λ tells. (c.in_ok-job.ensures.value tells).same.reads)
    c.in_err-check_undo.ensures.stops) c.from_residual-in_err-check_undo.ensures.1

pub returns-clause-installed : goal.returns-clause-installed
returns-clause-installed g c = c.in_ok-job.ensures.job.checks.list

pub returns-clause-fits : goal.returns-clause-fits
returns-clause-fits g c = c.in_ok-job.ensures.job.checks.fits

pub returns-clause-value : goal.returns-clause-value
returns-clause-value g c tells =
    let n = c.args.number in
    let es = c.in_ok-job.job.changes.items in
    let first = c.in_ok-job.ensures.value tells in
    let second = c.in_ok-check_undo.ensures.can tells in
    let same = c.as_slice-own.ensures.value in
    read_as (read_then g.met.D.TreeDisk.laws first second) (record {
      es = es;
      holds = first.answer;
      can = subst (λ (l : List state.Entry). CanUndoNext (g.D.TreeDisk.disk.reads c.args.disk.now) c.args.back.now.found l) same
          (subst (λ (t : Tree). CanUndoNext t c.args.back.now.found c.as_slice-own.result.now) first.same.reads second.answer);
      found = λ newest jobs is are. subst (λ (l : List state.Entry). AreFound newest (jobs ++ l ∷ []) c.take_back.new.found) same (c.in_ok-take_back.ensures newest jobs is are);
    })
