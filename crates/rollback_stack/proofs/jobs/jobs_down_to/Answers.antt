use Rattle.std.proofs.Common.{◌-◌, sym, subst, arith}
use Rattle.job_targets.specs.cny-base.Count.{Rose}
use Rattle.local_db.specs.Formats.{Fits}
use Rattle.local_db.specs.Installed.{IsInstalled}
use Rattle.local_db.specs.declared.format.Format.TheVariants.{Two}
use Rattle.job_targets.proofs.tree-disk.Moments.{rose_before}
use Rattle.job_targets.specs.tree-disk.Tree.{Tree}
use Rattle.rollback_stack.specs.Taking.{HasTakenJob, IsJobsStop}
use Rattle.rollback_stack.proofs.Later.{read_as, read_start, read_stopped, read_then}
use Rattle.change_rel.proofs.cny-base.Faults.{passed_on}
use Rattle.rollback_stack.proofs.TakenBack.{take_stops}
use Rattle.rollback_stack.proofs.TakingJobs.{none_taken, one_taken}
use Rattle.rollback_stack.proofs.jobs.jobs_down_to.Goals as goal

pub loop-below-init : goal.loop-below-init
loop-below-init g c = record {
  later = omega arith;
  read = λ tells. read_start g.met.D.TreeDisk.laws c.args.disk.now;
  format = c.in_ok-list.ensures.format;
  installed = subst IsInstalled (sym c.in_ok-list.ensures.troves) c.requires.db.installed;
  fits = subst (Fits Two) (sym c.in_ok-list.ensures.troves) c.requires.db.fits;
  taken = λ tells. none_taken (g.D.TreeDisk.disk.reads c.args.disk.now) c.args.db.now c.in_ok-list.list.troves c.new-found.result c.in_ok-list.ensures.troves c.new-found.ensures.empty;
}

pub returns-in_err-take_job-clause-value : goal.returns-in_err-take_job-clause-value
returns-in_err-take_job-clause-value g c tells = read_stopped g.met.D.TreeDisk.laws _ _ c.from_residual-in_err-take_job.result (c.loop-below.invariant.read tells) (c.in_err-take_job.ensures.value tells) c.from_residual-in_err-take_job.ensures.1

pub returns-in_err-take_job-clause-stops : goal.returns-in_err-take_job-clause-stops
returns-in_err-take_job-clause-stops g c =
    let told = g.D.TreeDisk.disk.tells in
    let faults = g.D.TreeDisk.disk.faults in
    let x = g.D.TreeDisk.disk.reads c.args.disk.now in
    let y = g.D.TreeDisk.disk.reads c.loop-below.disk in
    let db = c.args.db.now in
    let so_far = c.loop-below.invariant in
    let below = c.loop-below.below in
    let e = c.in_err-take_job.field-0.0 in
    let made = c.requires.job.made in
    let rose = Rose (faults c.loop-below.disk) (faults c.take_job.new.disk) in
    let later = Rose (faults c.args.disk.now) (faults c.take_job.new.disk) in
    passed_on (IsJobsStop told x db c.args.number later) e c.from_residual-in_err-take_job.result
    (take_stops told x y db c.args.number below c.loop-below.back.list.troves c.loop-below.back.found rose later e
    (λ r. rose_before (faults c.args.disk.now) (faults c.loop-below.disk) (faults c.take_job.new.disk) so_far.later r)
    (λ tells. (so_far.read tells).same.reads) so_far.taken (omega (arith, c.loop-below-test.true, made))
    c.in_err-take_job.ensures.stops) c.from_residual-in_err-take_job.ensures.1

pub loop-below-preserved : goal.loop-below-preserved
loop-below-preserved g c =
    let x = g.D.TreeDisk.disk.reads c.args.disk.now in
    let db = c.args.db.now in
    let so_far = c.loop-below.invariant in
    let below = c.loop-below.below in
    let old = c.loop-below.back in
    let new = c.take_job.new.back in
    record {
      later = omega (arith, so_far.later, c.in_ok-take_job.ensures.later);
      read = λ tells. read_as (read_then g.met.D.TreeDisk.laws (so_far.read tells) (c.in_ok-take_job.ensures.value tells)) tt;
      format = c.in_ok-take_job.ensures.format;
      installed = c.in_ok-take_job.ensures.installed;
      fits = c.in_ok-take_job.ensures.fits;
      taken = λ tells. one_taken x db below old.list.troves new.list.troves old.found new.found (so_far.taken tells)
          (subst (λ (t : Tree). HasTakenJob t (db.newest - below) old.list.troves new.list.troves old.found new.found) (so_far.read tells).same.reads (c.in_ok-take_job.ensures.value tells).answer);
    }
