use Rattle.std.proofs.Common.{◌-◌, sym, ◌∙◌, subst, arith}
use Rattle.job_targets.specs.cny-base.Count.{Rose}
use Rattle.rollback_stack.specs.JobReading.{HoldsRecord, IsDamagedJob, IsDamagedRecord}
use Rattle.local_db.specs.declared.format.Format.TheVariants.{Two}
use Rattle.job_targets.proofs.tree-disk.Moments.{rose_before}
use Rattle.job_targets.specs.tree-disk.Tree.{Tree}
use Rattle.rollback_stack.specs.Numbers.{job_count}
use Rattle.rollback_stack.specs.Reading.{AreNotes, IsAllStop}
use Rattle.rollback_stack.proofs.Later.{read_as, read_stop_then, read_stopped, read_then}
use Rattle.change_rel.proofs.cny-base.Faults.{passed_on}
use Rattle.rollback_stack.proofs.Noting.{all_noted, count_is, damaged_next, noted_as, one_noted}
use Rattle.rollback_stack.proofs.stack.all.Goals as goal

pub returns-in_err-job-clause-value : goal.returns-in_err-job-clause-value
returns-in_err-job-clause-value g c tells = read_stopped g.met.D.TreeDisk.laws _ _ c.from_residual-in_err-job.result (c.loop-below.invariant.read tells) (c.in_err-job.ensures.value tells) c.from_residual-in_err-job.ensures.1

pub returns-in_err-push-clause-value : goal.returns-in_err-push-clause-value
returns-in_err-push-clause-value g c tells = read_stopped g.met.D.TreeDisk.laws _ _ c.from_residual-in_err-push.result (c.loop-below.invariant.read tells) (c.in_ok-job.ensures.value tells) c.from_residual-in_err-push.ensures.1

pub returns-in_err-job-clause-stops : goal.returns-in_err-job-clause-stops
returns-in_err-job-clause-stops g c =
    let told = g.D.TreeDisk.disk.tells in
    let faults = g.D.TreeDisk.disk.faults in
    let x = g.D.TreeDisk.disk.reads c.args.disk.now in
    let db = c.args.db.now in
    let so_far = c.loop-below.invariant in
    let below = c.loop-below.below in
    let list = c.loop-below.list.troves in
    let number = db.newest - below in
    let count = job_count db.oldest db.newest in
    let e = c.in_err-job.field-0.0 in
    let counts = count_is db.oldest db.newest c.requires.db.ends c.if-db-eq0.false in
    let rose = Rose (faults c.loop-below.disk) (faults c.read_job.new.disk) in
    let later = Rose (faults c.args.disk.now) (faults c.read_job.new.disk) in
    passed_on (IsAllStop told x count db.newest db.installed later) e c.from_residual-in_err-job.result
    (read_stop_then told (IsDamagedJob Two (g.D.TreeDisk.disk.reads c.loop-below.disk) number list) (IsDamagedRecord Two x count db.newest db.installed) rose later e
    (λ tells path damaged.
    let here = subst (λ (t : Tree). IsDamagedJob Two t number list path) (so_far.read tells).same.reads damaged in
    damaged_next x db.newest below count db.installed list c.loop-below.notes.items path (so_far.noted tells) (omega (arith, counts, c.loop-below-test.true)) here.0 here.1)
    (λ r. rose_before (faults c.args.disk.now) (faults c.loop-below.disk) (faults c.read_job.new.disk) so_far.later r)
    c.in_err-job.ensures.stops) c.from_residual-in_err-job.ensures.1

pub loop-below-preserved : goal.loop-below-preserved
loop-below-preserved g c =
    let x = g.D.TreeDisk.disk.reads c.args.disk.now in
    let db = c.args.db.now in
    let so_far = c.loop-below.invariant in
    let below = c.loop-below.below in
    let list = c.loop-below.list.troves in
    let next = c.read_job.new.list.troves in
    let job = c.in_ok-job.job in
    let es = job.changes.items in
    let is = c.in_ok-job.ensures.job in
    record {
      later = omega (arith, so_far.later, c.in_ok-job.ensures.later);
      read = λ tells. read_as (read_then g.met.D.TreeDisk.laws (so_far.read tells) (c.in_ok-job.ensures.value tells)) tt;
      format = c.in_ok-job.ensures.format ∙ so_far.format;
      installed = is.checks.list;
      noted = λ tells.
          let here = subst (λ (t : Tree). HoldsRecord Two t (db.newest - below) list next es) (so_far.read tells).same.reads (c.in_ok-job.ensures.value tells).answer in
          one_noted x db.newest below db.installed list next c.loop-below.notes.items c.push.new.self.items es c.note_of.result (so_far.noted tells) here
          (noted_as list next (db.newest - below) job.changed.before job.changed.after job.changes.items c.note_of.result is.before_ids is.after_ids c.note_of.ensures)
          c.in_ok-push.ensures.items;
    }

pub returns-clause-value : goal.returns-clause-value
returns-clause-value g c tells =
    let x = g.D.TreeDisk.disk.reads c.args.disk.now in
    let db = c.args.db.now in
    let so_far = c.loop-below.invariant in
    let counts = count_is db.oldest db.newest c.requires.db.ends c.if-db-eq0.false in
    let count = job_count db.oldest db.newest in
    read_as (so_far.read tells) (subst (AreNotes x count db.newest db.installed) (sym c.new-2.ensures)
    (all_noted x db.newest c.loop-below.below count db.installed c.loop-below.list.troves c.loop-below.notes.items (so_far.noted tells)
    (omega (arith, counts, c.loop-below-test.false, c.loop-below.auto.below-end))))
