use Rattle.std.proofs.Common.{inl, ℕ, Result, Err, refl, sym, ap, subst, arith}
use Rattle.rollback_stack.specs.cny-base.Count.{Rose}
use Rattle.rollback_stack.specs.cny-base.declared.stop.Stop.{Stop}
use Rattle.rollback_stack.proofs.tree-disk.Moments.{rose_before}
use Rattle.rollback_stack.proofs.Later.{read_as}
use Rattle.local_db.proofs.cny-base.Faults.{passed_on}
use Rattle.system_core.specs.RestoringAll.{RestoresTo}
use Rattle.system_core.specs.Rollback.{HasRollbackCause}
use Rattle.system_core.specs.Several.{IsRefusalKindTo, RollsBackTo, StopsTo, jobs_to, paths_of_jobs, rolled_back_to}
use Rattle.system_core.proofs.EndingAll.{cause_to, cause_written, done_restores_to, done_rolls_to, err_is, failed_restores_to, failed_rolls_to, restores_to_err, stops_to, taken_back_to, written_to}
use Rattle.system_core.proofs.Moving.{still}
use Rattle.system_core.proofs.PuttingAll.{can_write_to}
use Rattle.system_core.proofs.Rolled.{rolled_fixed, rolled_ready}
use Rattle.system_core.proofs.SteppingAll.{unwritten_to}
use Rattle.system_core.proofs.several_jobs.rollback_to.Goals as goal

pub returns-in_err-step-clause-rolls : goal.returns-in_err-step-clause-rolls
returns-in_err-step-clause-rolls g c tells s stores =
    let disk = g.T.TreeDisk.disk in
    let laws = g.met.T.TreeDisk.laws in
    let old = c.args.root.now in
    let mid = c.prepare_to.new.disk in
    let db = c.args.db.now in
    let number = c.args.number in
    let ready = c.requires.ready tells in
    let e = c.in_err-step.field-0.0 in
    let rose = Rose (disk.faults old) (disk.faults mid) in
    subst (λ (r : Result ℕ Stop). RollsBackTo disk s number db old mid r) (sym (err_is c.from_residual.result e c.from_residual.ensures.1))
    (record {
      ends = unwritten_to c.distinct_databases.ensures.unique c.one_record.ensures.one (disk.reads old) s stores db ready.holds (laws.reads_well_formed old) disk.tells number rose db e tells c.in_err-step.ensures.stops;
      only = inl (read_as (c.in_err-step.ensures.value tells) tt);
      moves = still disk laws s db old ready stores (c.in_err-step.ensures.value tells) (rolled_back_to number s) (paths_of_jobs (jobs_to number s.stack)) (Err e) tt;
    })

pub returns-in_err-step-clause-restores : goal.returns-in_err-step-clause-restores
returns-in_err-step-clause-restores g c tells s stores has unedited =
    let disk = g.T.TreeDisk.disk in
    let laws = g.met.T.TreeDisk.laws in
    let old = c.args.root.now in
    let mid = c.prepare_to.new.disk in
    let db = c.args.db.now in
    let number = c.args.number in
    let ready = c.requires.ready tells in
    let e = c.in_err-step.field-0.0 in
    let rose = Rose (disk.faults old) (disk.faults mid) in
    subst (λ (r : Result ℕ Stop). RestoresTo s number db (disk.reads mid) r) (sym (err_is c.from_residual.result e c.from_residual.ensures.1))
    (restores_to_err (disk.reads old) s stores number has unedited db (disk.reads mid) e
    (unwritten_to c.distinct_databases.ensures.unique c.one_record.ensures.one (disk.reads old) s stores db ready.holds (laws.reads_well_formed old) disk.tells number rose db e tells c.in_err-step.ensures.stops))

pub returns-in_err-step-clause-stops : goal.returns-in_err-step-clause-stops
returns-in_err-step-clause-stops g c tells =
    let disk = g.T.TreeDisk.disk in
    let old = c.args.root.now in
    let mid = c.prepare_to.new.disk in
    let e = c.in_err-step.field-0.0 in
    let rose = Rose (disk.faults old) (disk.faults mid) in
    passed_on (StopsTo disk c.args.db.now c.args.number old mid) e c.from_residual.result
    (stops_to disk c.args.db.now c.args.number old mid rose e tells (c.in_err-step.ensures.value tells) c.in_err-step.ensures.stops) c.from_residual.ensures.1

pub returns-in_err-step-clause-causes : goal.returns-in_err-step-clause-causes
returns-in_err-step-clause-causes g c =
    let disk = g.T.TreeDisk.disk in
    let old = c.args.root.now in
    let rose = Rose (disk.faults old) (disk.faults c.prepare_to.new.disk) in
    let e = c.in_err-step.field-0.0 in
    passed_on (HasRollbackCause (IsRefusalKindTo c.args.db.now c.args.number) rose) e c.from_residual.result
    (cause_to disk.tells (disk.reads old) c.args.db.now c.args.number rose e c.in_err-step.ensures.stops) c.from_residual.ensures.1

pub write_all-requires : goal.write_all-requires
write_all-requires g c = record {
  can = λ tells.
      let disk = g.T.TreeDisk.disk in
      let old = c.args.root.now in
      let run = c.in_ok-step.ensures.value tells in
      let ready = c.requires.ready tells in
      can_write_to (disk.reads old) c.args.db.now c.args.number c.in_ok-step.step run.answer (g.met.T.TreeDisk.laws.reads_well_formed old) ready.holds disk old c.prepare_to.new.disk ready run.same.reads run.same.unsynced refl;
}

pub returns-in_err-write_all-clause-rolls : goal.returns-in_err-write_all-clause-rolls
returns-in_err-write_all-clause-rolls g c tells s stores =
    let disk = g.T.TreeDisk.disk in
    let old = c.args.root.now in
    let new = c.write_all.new.root in
    let db = c.args.db.now in
    let e = c.in_err-write_all.field-0.0 in
    subst (λ (r : Result ℕ Stop). RollsBackTo disk s c.args.number db old new r) (sym (err_is c.from_residual-in_err-write_all.result e c.from_residual-in_err-write_all.ensures.1))
    (failed_rolls_to disk g.met.T.TreeDisk.laws c.distinct_databases.ensures.unique c.one_record.ensures.one db c.args.number old c.prepare_to.new.disk new (c.requires.ready tells) c.in_ok-step.step (c.in_ok-step.ensures.value tells)
    c.in_ok-step.ensures.later c.in_err-write_all.ensures.later (Err e) (c.in_err-write_all.ensures.goes tells) s stores e c.in_err-write_all.ensures.stops)

pub returns-in_err-write_all-clause-restores : goal.returns-in_err-write_all-clause-restores
returns-in_err-write_all-clause-restores g c tells s stores has unedited =
    let disk = g.T.TreeDisk.disk in
    let old = c.args.root.now in
    let new = c.write_all.new.root in
    let db = c.args.db.now in
    let e = c.in_err-write_all.field-0.0 in
    subst (λ (r : Result ℕ Stop). RestoresTo s c.args.number db (disk.reads new) r) (sym (err_is c.from_residual-in_err-write_all.result e c.from_residual-in_err-write_all.ensures.1))
    (failed_restores_to disk g.met.T.TreeDisk.laws c.distinct_databases.ensures.unique c.one_record.ensures.one db c.args.number old c.prepare_to.new.disk new (c.requires.ready tells) c.in_ok-step.step (c.in_ok-step.ensures.value tells)
    c.in_ok-step.ensures.later c.in_err-write_all.ensures.later (Err e) (c.in_err-write_all.ensures.goes tells) s stores has unedited e c.in_err-write_all.ensures.stops)

pub returns-in_err-write_all-clause-stops : goal.returns-in_err-write_all-clause-stops
returns-in_err-write_all-clause-stops g c tells =
    let disk = g.T.TreeDisk.disk in
    let old = c.args.root.now in
    let new = c.write_all.new.root in
    let e = c.in_err-write_all.field-0.0 in
    passed_on (StopsTo disk c.args.db.now c.args.number old new) e c.from_residual-in_err-write_all.result
    (written_to disk c.args.db.now c.args.number old new e (c.in_ok-step.step, (c.in_ok-step.ensures.value tells).answer) c.in_err-write_all.ensures.stops) c.from_residual-in_err-write_all.ensures.1

pub returns-in_err-write_all-clause-causes : goal.returns-in_err-write_all-clause-causes
returns-in_err-write_all-clause-causes g c =
    let disk = g.T.TreeDisk.disk in
    let old = c.args.root.now in
    let mid = c.prepare_to.new.disk in
    let new = c.write_all.new.root in
    let rose = Rose (disk.faults old) (disk.faults new) in
    let e = c.in_err-write_all.field-0.0 in
    passed_on (HasRollbackCause (IsRefusalKindTo c.args.db.now c.args.number) rose) e c.from_residual-in_err-write_all.result
    (cause_written (IsRefusalKindTo c.args.db.now c.args.number) rose e c.in_err-write_all.ensures.stops (λ failed. rose_before (disk.faults old) (disk.faults mid) (disk.faults new) c.in_ok-step.ensures.later (c.in_err-write_all.ensures.failed (ap Err failed)))) c.from_residual-in_err-write_all.ensures.1

pub returns-clause-rolls : goal.returns-clause-rolls
returns-clause-rolls g c tells s stores =
    let disk = g.T.TreeDisk.disk in
    let made = c.in_ok-step.ensures.job.made in
    done_rolls_to disk g.met.T.TreeDisk.laws c.distinct_databases.ensures.unique c.one_record.ensures.one c.args.db.now c.args.number c.args.root.now c.prepare_to.new.disk c.write_all.new.root (c.requires.ready tells) c.in_ok-step.step
    (c.in_ok-step.ensures.value tells) c.in_ok-step.ensures.later c.in_ok-write_all.ensures.later _ (c.in_ok-write_all.ensures.goes tells) s stores refl _ (omega (arith, made))

pub returns-clause-again : goal.returns-clause-again
returns-clause-again g c tells =
    rolled_ready g.T.TreeDisk.disk g.met.T.TreeDisk.laws c.args.db.now c.args.number c.args.root.now c.prepare_to.new.disk c.write_all.new.root (c.requires.ready tells) c.in_ok-step.step (c.in_ok-step.ensures.value tells)
    (c.in_ok-write_all.ensures.put tells) c.in_ok-step.ensures.database

pub returns-clause-fixed : goal.returns-clause-fixed
returns-clause-fixed g c tells =
    rolled_fixed g.T.TreeDisk.disk g.met.T.TreeDisk.laws c.args.db.now c.args.number c.args.root.now c.prepare_to.new.disk c.write_all.new.root (c.requires.ready tells) c.in_ok-step.step (c.in_ok-step.ensures.value tells)
    (c.in_ok-write_all.ensures.put tells)

pub returns-clause-restores : goal.returns-clause-restores
returns-clause-restores g c tells s stores has unedited =
    let disk = g.T.TreeDisk.disk in
    done_restores_to disk g.met.T.TreeDisk.laws c.distinct_databases.ensures.unique c.one_record.ensures.one c.args.db.now c.args.number c.args.root.now c.prepare_to.new.disk c.write_all.new.root (c.requires.ready tells) c.in_ok-step.step
    (c.in_ok-step.ensures.value tells) c.in_ok-step.ensures.later c.in_ok-write_all.ensures.later _ (c.in_ok-write_all.ensures.goes tells) s stores refl 0

pub returns-clause-done : goal.returns-clause-done
returns-clause-done g c tells =
    let made = c.in_ok-step.ensures.job.made in
    taken_back_to g.T.TreeDisk.disk c.args.db.now c.args.number c.args.root.now c.prepare_to.new.disk c.write_all.new.root c.in_ok-step.step (c.in_ok-step.ensures.value tells) (c.in_ok-write_all.ensures.put tells) _ (omega (arith, made))
