use Rattle.std.proofs.Common.{ℕ, Result, Err, Ok, sym, subst}
use Rattle.rollback_stack.specs.cny-base.Count.{Rose}
use Rattle.rollback_stack.specs.cny-base.declared.stop.Stop.{Stop}
use Rattle.local_db.proofs.cny-base.Faults.{passed_on}
use Rattle.local_db.specs.SystemState.{newest}
use Rattle.system_core.specs.Restoring.{Restores}
use Rattle.system_core.specs.RestoringAll.{AreUnedited, RestoresTo}
use Rattle.system_core.specs.Rollback.{HasRollbackCause}
use Rattle.system_core.specs.Several.{HasJob, HasTakenBackTo, IsRefusalKind, RollsBackTo, StopsTo, counted}
use Rattle.system_core.proofs.EndingAll.{err_is}
use Rattle.system_core.proofs.OneJob.{just_one, newest_cause, newest_is, one_restored}
use Rattle.system_core.proofs.newest_job.rollback.Goals as goal

pub returns-in_err-rollback_to-clause-rolls : goal.returns-in_err-rollback_to-clause-rolls
returns-in_err-rollback_to-clause-rolls g c tells s stores =
    let disk = g.T.TreeDisk.disk in
    let old = c.args.root.now in
    let new = c.rollback_to.new.root in
    let left = c.rollback_to.new.db in
    let e = c.in_err-rollback_to.field-0.0 in
    let same = newest_is c.distinct_databases.ensures.unique (disk.reads old) s c.args.db.now (c.requires.ready tells).holds stores in
    subst (λ (r : Result ℕ Stop). RollsBackTo disk s (newest s.stack) left old new (counted r)) (sym (err_is c.from_residual.result e c.from_residual.ensures.1))
    (subst (λ (n : ℕ). RollsBackTo disk s n left old new (Err e)) same (c.in_err-rollback_to.ensures.rolls tells s stores))

pub returns-in_err-rollback_to-clause-restores : goal.returns-in_err-rollback_to-clause-restores
returns-in_err-rollback_to-clause-restores g c tells s o olds stores stack unedited =
    let disk = g.T.TreeDisk.disk in
    let x = disk.reads c.rollback_to.new.root in
    let left = c.rollback_to.new.db in
    let e = c.in_err-rollback_to.field-0.0 in
    let same = newest_is c.distinct_databases.ensures.unique (disk.reads c.args.root.now) s c.args.db.now (c.requires.ready tells).holds stores in
    subst (λ (r : Result ℕ Stop). Restores o s.tree left x r) (sym (err_is c.from_residual.result e c.from_residual.ensures.1))
    (one_restored s stores.system o olds stack (Err e) left x
    (subst (λ (n : ℕ). HasJob s.stack n → AreUnedited s n → RestoresTo s n left x (Err e)) same (c.in_err-rollback_to.ensures.restores tells s stores)) unedited)

pub returns-in_err-rollback_to-clause-stops : goal.returns-in_err-rollback_to-clause-stops
returns-in_err-rollback_to-clause-stops g c tells =
    let db = c.args.db.now in
    passed_on (StopsTo g.T.TreeDisk.disk db db.newest c.args.root.now c.rollback_to.new.root) c.in_err-rollback_to.field-0.0 c.from_residual.result
    (c.in_err-rollback_to.ensures.stops tells) c.from_residual.ensures.1

pub returns-in_err-rollback_to-clause-causes : goal.returns-in_err-rollback_to-clause-causes
returns-in_err-rollback_to-clause-causes g c =
    let disk = g.T.TreeDisk.disk in
    let db = c.args.db.now in
    let rose = Rose (disk.faults c.args.root.now) (disk.faults c.rollback_to.new.root) in
    let e = c.in_err-rollback_to.field-0.0 in
    passed_on (HasRollbackCause (IsRefusalKind db) rose) e c.from_residual.result
    (newest_cause db c.requires.db rose e c.in_err-rollback_to.ensures.causes) c.from_residual.ensures.1

pub returns-clause-rolls : goal.returns-clause-rolls
returns-clause-rolls g c tells s stores =
    let disk = g.T.TreeDisk.disk in
    let old = c.args.root.now in
    let new = c.rollback_to.new.root in
    let left = c.rollback_to.new.db in
    let count = c.in_ok-rollback_to.field-0 in
    let one = just_one disk c.args.db.now left old new count (c.in_ok-rollback_to.ensures.done tells) in
    let same = newest_is c.distinct_databases.ensures.unique (disk.reads old) s c.args.db.now (c.requires.ready tells).holds stores in
    subst (λ (k : ℕ). RollsBackTo disk s (newest s.stack) left old new (Ok k)) one
    (subst (λ (n : ℕ). RollsBackTo disk s n left old new (Ok count)) same (c.in_ok-rollback_to.ensures.rolls tells s stores))

pub returns-clause-restores : goal.returns-clause-restores
returns-clause-restores g c tells s o olds stores stack unedited =
    let disk = g.T.TreeDisk.disk in
    let x = disk.reads c.rollback_to.new.root in
    let left = c.rollback_to.new.db in
    let count = c.in_ok-rollback_to.field-0 in
    let same = newest_is c.distinct_databases.ensures.unique (disk.reads c.args.root.now) s c.args.db.now (c.requires.ready tells).holds stores in
    one_restored s stores.system o olds stack (Ok count) left x
    (subst (λ (n : ℕ). HasJob s.stack n → AreUnedited s n → RestoresTo s n left x (Ok count)) same (c.in_ok-rollback_to.ensures.restores tells s stores)) unedited

pub returns-clause-done : goal.returns-clause-done
returns-clause-done g c tells =
    let disk = g.T.TreeDisk.disk in
    let db = c.args.db.now in
    let old = c.args.root.now in
    let new = c.rollback_to.new.root in
    let left = c.rollback_to.new.db in
    let count = c.in_ok-rollback_to.field-0 in
    subst (λ (k : ℕ). HasTakenBackTo disk db left db.newest old new k) (just_one disk db left old new count (c.in_ok-rollback_to.ensures.done tells)) (c.in_ok-rollback_to.ensures.done tells)
